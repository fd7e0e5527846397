-- The tables after a flip, read side by side.
use mathlib.Core.Path.{◌≡◌, refl, ◌∙◌}
use mathlib.Core.Logic.{◌≢◌}
use mathlib.Core.List.{List}
use Prim.Native.Nat.{ℕ, suc, ◌+◌, ◌*◌, ◌/◌, ◌≤◌, ◌<◌}
use native.Mathlib.Omega.{arith}
use lib.ListN.{length, set, length-set}
use lib.Seq.{get_or-set_same, get_or-set_other, lt-length-set, drop-set-lt}
use Rattle.theory.proofs.Links.Manifold.{Manifold}
use Rattle.theory.proofs.Links.Past.{Past, drop_put, drop_told, joined_below}
use Rattle.theory.proofs.Links.Sides.{rename_a, rename_b, rename_else, by_rename, relinked, put_else}
use Rattle.theory.proofs.Links.Sides.{Row}
use Rattle.theory.proofs.Links.Sides.{put_row, row_else}
use Rattle.theory.proofs.Splits.Parts.{mutual_links}
use Rattle.rules.specs.Actions.{rename_two}
use Rattle.rules.specs.Split.{flip}
use Rattle.rules.specs.Tables.{Topology, sides, origin, link, generation, put_three}

-- The names of the old sides after the flip of s and u: side 1 of each becomes side 0 of the other.
abbrev pub flip_name : ℕ → ℕ → ℕ → ℕ
flip_name s u = rename_two (3 * s + 1) (3 * u) (3 * u + 1) (3 * s)

module _ (s u : ℕ) where
  pub flip_name_s : flip_name s u (3 * s + 1) ≡ 3 * u
  flip_name_s = rename_a (3 * s + 1) (3 * u) (3 * u + 1) (3 * s)

  pub flip_name_u : s ≢ u → flip_name s u (3 * u + 1) ≡ 3 * s
  flip_name_u ne = rename_b (3 * s + 1) (3 * u) (3 * u + 1) (3 * s) (omega arith)

  pub flip_name_else : (h : ℕ) → h ≢ 3 * s + 1 → h ≢ 3 * u + 1 → flip_name s u h ≡ h
  flip_name_else = rename_else (3 * s + 1) (3 * u) (3 * u + 1) (3 * s)

  pub by_flip_name : (P : ℕ → Type 0) → s ≢ u → (h : ℕ) → (h ≡ 3 * s + 1 → P (3 * u)) → (h ≡ 3 * u + 1 → P (3 * s))
      → (h ≢ 3 * s + 1 → h ≢ 3 * u + 1 → P h) → P (flip_name s u h)
  by_flip_name P ne = by_rename (3 * s + 1) (3 * u) (3 * u + 1) (3 * s) P (omega arith)

-- n is m with s and u flipped.
pub record Flips (s u : ℕ) (m n : Topology) : Type 0 where
  pub makes : flip s u m ≡ n
  pub vertices : n.vertices ≡ m.vertices
  pub triangles : n.triangles ≡ m.triangles
  pub corners_s : Row n.corners 0 s (origin m (3 * s)) (origin m (3 * u + 2)) (origin m (3 * s + 2))
  pub corners_u : Row n.corners 0 u (origin m (3 * u)) (origin m (3 * s + 2)) (origin m (3 * u + 2))
  pub corners : (h : ℕ) → h / 3 ≢ s → h / 3 ≢ u → origin n h ≡ origin m h
  pub links_s : Row n.links 0 s (link m (3 * u + 1)) (3 * u + 1) (link m (3 * s + 2))
  pub links_u : Row n.links 0 u (link m (3 * s + 1)) (3 * s + 1) (link m (3 * u + 2))
  pub links : (h : ℕ) → h < sides m → h / 3 ≢ s → h / 3 ≢ u → link n h ≡ flip_name s u (link m h)
  pub generation_s : generation n s ≡ suc (generation m s)
  pub generation_u : generation n u ≡ suc (generation m s)
  pub generations : (x : ℕ) → x ≢ s → x ≢ u → generation n x ≡ generation m x
  pub corner_room : length n.corners ≡ length m.corners
  pub link_room : length n.links ≡ length m.links
  pub generation_room : length n.generations ≡ length m.generations
  pub past : (b : ℕ) → m.triangles ≤ b → Past b m n

module _ (s u : ℕ) (m : Topology) (F : Manifold m) (bs : s < m.triangles) (bu : u < m.triangles) (ne : s ≢ u) where
  pub flip_flips : Flips s u m (flip s u m)
  unfolding flip
  flip_flips =
      let rc = F.corner_room in
      let rl = F.link_room in
      let rg = F.generation_room in
      let ls : ℕ = link m (3 * s + 1) in
      let lu : ℕ = link m (3 * u + 1) in
      let ls₂ : ℕ = link m (3 * s + 2) in
      let lu₂ : ℕ = link m (3 * u + 2) in
      let a = origin m (3 * s) in
      let b = origin m (3 * u) in
      let p = origin m (3 * s + 2) in
      let q = origin m (3 * u + 2) in
      let c₁ : List ℕ = put_three s (a, q, p) m.corners in
      let cc₁ : length c₁ ≡ length m.corners = simp length-set in
      let l : List ℕ = set (set m.links ls (3 * u)) lu (3 * s) in
      let l₁ : List ℕ = put_three s (lu, 3 * u + 1, ls₂) l in
      let ll : length l ≡ length m.links = simp length-set in
      let ll₁ : length l₁ ≡ length l = simp length-set in
      let g : ℕ = suc (generation m s) in
      let su : s ≢ u = ne in
      let gs : s < length m.generations = omega arith in
      let gu : u < length m.generations = omega arith in
      record {
        makes = refl;
        vertices = refl;
        triangles = refl;
        corners_s = row_else c₁ u b p q 0 s a q p ne (put_row m.corners s a q p 0 (omega arith));
        corners_u = put_row c₁ u b p q 0 (omega arith);
        corners = λ h i j. put_else c₁ u b p q 0 h j ∙ put_else m.corners s a q p 0 h i;
        links_s =
            row_else l₁ u ls (3 * s + 1) lu₂ 0 s lu (3 * u + 1) ls₂ ne (put_row l s lu (3 * u + 1) ls₂ 0 (omega arith));
        links_u = put_row l₁ u ls (3 * s + 1) lu₂ 0 (omega arith);
        links = λ h k i j.
            put_else l₁ u ls (3 * s + 1) lu₂ 0 h j
            ∙ put_else l s lu (3 * u + 1) ls₂ 0 h i
            ∙ relinked m.links (3 * m.triangles) (mutual_links m F) F.link_room
            (omega (arith, F.slots, F.generation_room)) (3 * s + 1) (3 * u) (3 * u + 1) (3 * s) h (omega arith)
            (omega arith) (omega arith) k;
        generation_s = simp (get_or-set_other, get_or-set_same);
        generation_u = simp (get_or-set_same, lt-length-set);
        generations = λ x i j. simp get_or-set_other;
        corner_room = simp length-set;
        link_room = simp length-set;
        generation_room = simp length-set;
        past = past;
      }
    where
      past : (b : ℕ) → m.triangles ≤ b → Past b m (flip s u m)
      past c i =
          let ls : ℕ = link m (3 * s + 1) in
          let lu : ℕ = link m (3 * u + 1) in
          let l₁ : List ℕ = set m.links ls (3 * u) in
          let l₂ : List ℕ = set l₁ lu (3 * s) in
          let x : ℕ × ℕ × ℕ = (lu, 3 * u + 1, link m (3 * s + 2)) in
          record {
            corners = drop_put _ u c _ (omega arith) ∙ drop_put m.corners s c _ (omega arith);
            links =
                drop_put (put_three s x l₂) u c _ (omega arith)
                ∙ drop_put l₂ s c x (omega arith)
                ∙ drop_told l₁ c lu (3 * s) (rw length-set F.link_slots)
                (joined_below m c (3 * u + 1) i (F.linked (3 * u + 1) (omega arith)))
                ∙ drop_told m.links c ls (3 * u) F.link_slots
                (joined_below m c (3 * s + 1) i (F.linked (3 * s + 1) (omega arith)));
            generations = drop-set-lt c _ u _ (omega arith) ∙ drop-set-lt c _ s _ (omega arith);
          }
