-- Refine as a counted loop: as many splits as t takes, each at the end that its base chain has then.
use mathlib.Core.Path.{◌≡◌, refl, sym, ap, ◌∙◌, subst}
use mathlib.Core.Bool.{Bool, true, false}
use mathlib.Core.List.{List, ◌++◌}
use Prim.Native.Nat.{ℕ, zero, suc, ◌+◌, ◌-◌, ◌*◌, ◌/◌, ◌%◌, ◌≤◌, ◌<◌, max}
use native.Mathlib.Omega.{arith}
use lib.ListN.{length, length-append, get_or}
use Rattle.theory.proofs.Splits.Bases.{reached}
use Rattle.theory.proofs.Calls.Carried.{RefineFound, found_young}
use Rattle.theory.proofs.Chains.Chain.{Path, ends, across, path_end, path_use, path_high, path_fit, Shorter}
use Rattle.theory.proofs.Chains.Chain.{shortens}
use Rattle.theory.proofs.Splits.Splitting.{Room, Splitting, room_fewer}
use Rattle.theory.proofs.Links.Manifold.{Manifold, BasesMeetIn}
use Rattle.theory.proofs.Chains.Raise.{raise_stops, raise_splits, room_rest}
use Rattle.theory.proofs.Chains.Refine.{sound_room, chain_path, chain_bound}
use Rattle.theory.proofs.Soundness.Relaxed.{SameSlots, sound_manifold, sound_bases, agree_on}
use Rattle.theory.proofs.Chains.Remembered.{path_last, path_within, places_stay}
use Rattle.theory.proofs.Chains.Runs.{top_of, rim_of, split_even, split_odd}
use Rattle.theory.proofs.Chains.Runs.{split_splitting, split_told, split_report}
use Rattle.theory.proofs.Splits.Settled.{nowhere}
use Rattle.rules.specs.Calls.{splits_of, rim_splits_of}
use Rattle.rules.specs.Conditions.{RoomFor}
use Rattle.rules.specs.Conditions.{Splittable, is_even, on_boundary}
use Rattle.rules.specs.Split.{Work, at_first, flip, with_flip, settle, face_placed, with_split, face_split, chain_end}
use Rattle.rules.specs.Split.{chain_odd, chain_at, rim_placed, rim_split, split_at, raise, refine}
use Rattle.rules.specs.Tables.{Topology, Mesh, TablesAgree, with_topology, link, generation, is_base, vertex_slots}

-- k splits, each at the end of the base chain of t.
unfoldable pub split_ends : ℕ → ℕ → Work → Work
split_ends zero t w = w
split_ends (suc k) t w = split_ends k t (split_at (chain_end (reached w) t) w)

-- ---- what is ahead

-- The base chain of t leads to its end, and raising t takes k splits.
pub record Leads (k t : ℕ) (m : Topology) : Type 0 where
  pub steps : ℕ
  pub path : Path m t (chain_end m t) steps
  pub splits : max 1 steps ≡ k

-- With no split left t has risen above g; before that it is at g.
abbrev pub Rising : ℕ → ℕ → ℕ → Topology → Type 0
Rising zero g t m = g < generation m t
Rising (suc k) g t m = (generation m t ≡ g) × Leads (suc k) t m

-- Work that raises t above g by k splits more.
pub record Ahead (k g t : ℕ) (w : Work) : Type 0 where
  pub manifold : Manifold (reached w)
  pub bases_meet : BasesMeetIn nowhere (reached w)
  pub in_use : t < (reached w).triangles
  pub room : Room k (reached w)
  pub rising : Rising k g t (reached w)

-- The end of the chain of t: what is split next.
pub record End (g v : ℕ) (m : Topology) : Type 0 where
  pub in_use : v < m.triangles
  pub fit : Splittable m v
  pub young : generation m v ≤ g

path_young : {m : Topology} {t v k : ℕ} → Manifold m → BasesMeetIn nowhere m → t < m.triangles → Path m t v k
    → generation m v ≤ generation m t
path_young F K l (ends e) = omega arith
path_young {m} {t} {v} F K l (across o r p) = let h = path_high F K l (across {t = t} o r p) in omega arith

pub ahead_end : {k g t : ℕ} {w : Work} → Ahead (suc k) g t w → End g (chain_end (reached w) t) (reached w)
ahead_end {t = t} {w = w} A =
    let p = A.rising.1.path in
    let y = path_young A.manifold A.bases_meet A.in_use p in
    record {
      in_use = path_use A.manifold A.bases_meet A.in_use p;
      fit = path_fit p;
      young = omega (arith, A.rising.0);
    }

-- ---- one split

pub ahead_splitting : {k g t : ℕ} {w : Work} (A : Ahead (suc k) g t w) →
    let v = chain_end (reached w) t in
    let x = (ahead_end A).fit in
    Splitting v (top_of (reached w) v) (1 + rim_of (reached w) v) (2 * rim_of (reached w) v) w (split_at v w)
ahead_splitting {k} {t = t} {w = w} A =
    let E = ahead_end A in
    split_splitting (chain_end (reached w) t) w E.fit A.manifold E.in_use
    (room_fewer (suc k) 1 (reached w) A.room (omega arith))

-- What it reports. (Request m)
pub ahead_report : {k g t : ℕ} {w : Work} → Ahead (suc k) g t w →
    let v = chain_end (reached w) t in
    (split_at v w).report ≡ w.report ++ split_told (reached w) v
ahead_report {k} {t = t} {w = w} A =
    let E = ahead_end A in
    split_report (chain_end (reached w) t) w E.fit A.manifold E.in_use
    (room_fewer (suc k) 1 (reached w) A.room (omega arith))

rising_on : (k n g t : ℕ) (m x : Topology) → Manifold x → BasesMeetIn nowhere x → t < x.triangles
    → generation m t ≡ g → max 1 n ≡ suc k → Shorter m x t n → Rising k g t x
rising_on zero zero g t m x F K l q e s = omega arith
rising_on zero (suc zero) g t m x F K l q e s = omega arith
rising_on zero (suc (suc n)) g t m x F K l q e s = absurd (omega arith)
rising_on (suc k) zero g t m x F K l q e s = absurd (omega arith)
rising_on (suc k) (suc zero) g t m x F K l q e s = absurd (omega arith)
rising_on (suc k) (suc (suc n)) g t m x F K l q e s =
    let p = s.1.2 in
    let z = path_end (generation x t) F K l (omega arith) p in
    (s.0 ∙ q, record { steps = suc n; path = subst (λ (v : ℕ). Path x t v (suc n)) (sym z) p; splits = omega arith })

pub ahead_on : {k g t : ℕ} {w : Work} → Ahead (suc k) g t w → Ahead k g t (split_at (chain_end (reached w) t) w)
ahead_on {k} {g} {t} {w} A =
    let m : Topology = reached w in
    let v : ℕ = chain_end m t in
    let x : Topology = reached (split_at v w) in
    let E = ahead_end A in
    let S = (ahead_splitting A).result in
    let L = A.rising.1 in
    let s =
    shortens v _ _ _ m x A.manifold A.bases_meet E.in_use E.fit S A.in_use refl L.path in
    let l : t < x.triangles = omega (arith, S.triangles, A.in_use) in
    record {
      manifold = S.manifold;
      bases_meet = S.bases_meet A.bases_meet;
      in_use = l;
      room = room_rest k v _ _ _ m x S A.room;
      rising =
          rising_on k L.steps g t m x S.manifold (S.bases_meet A.bases_meet) l A.rising.0 L.splits s;
    }

-- The splits ahead add to the report.
pub longer_ahead : {g t : ℕ} (k : ℕ) (w : Work) → Ahead k g t w
    → length w.report ≤ length (split_ends k t w).report
unfolding split_ends
longer_ahead zero w A = omega arith
longer_ahead (suc k) w A =
    let T = (ahead_splitting A).telling in
    omega (arith, longer_ahead k _ (ahead_on A), ap length T.report, length-append w.report T.more)

-- ---- what stays of the chain

-- v lies across the base of x.
pub record Across (x v : ℕ) (m : Topology) : Type 0 where
  pub in_use : x < m.triangles
  pub next : v ≡ link m (3 * x) / 3

-- The odd triangles before the end of a chain are as many as the splits ahead, where these are two or more.
pub path_of_two : {k g t : ℕ} {w : Work} → Ahead (suc (suc k)) g t w
    → Path (reached w) t (chain_end (reached w) t) (suc (suc k))
path_of_two {k} {t = t} {w = w} A =
    let L = A.rising.1 in
    let e : L.steps ≡ suc (suc k) = omega (arith, L.splits) in
    subst (Path (reached w) t (chain_end (reached w) t)) e L.path

-- After the next split the chain ends at an even triangle.
pub path_after : {k g t : ℕ} {w : Work} → Ahead (suc (suc k)) g t w →
    let x = reached (split_at (chain_end (reached w) t) w) in
    Path x t (chain_end x t) (suc k) × (generation x (chain_end x t) % 2 ≡ 0)
path_after {k} {t = t} {w = w} A =
    let m : Topology = reached w in
    let v : ℕ = chain_end m t in
    let x : Topology = reached (split_at v w) in
    let E = ahead_end A in
    let S = (ahead_splitting A).result in
    let s =
    shortens v _ _ _ m x A.manifold A.bases_meet E.in_use E.fit S A.in_use refl (path_of_two A) in
    let z =
    path_end (generation x t) S.manifold (S.bases_meet A.bases_meet) (omega (arith, S.triangles, A.in_use))
    (omega arith) s.1.2 in (
      subst (λ (y : ℕ). Path x t y (suc k)) (sym z) s.1.2,
      subst (λ (y : ℕ). generation x y % 2 ≡ 0) (sym z) s.1.1,
    )

-- The places of those that a split leaves stay.
pub ahead_stays : {g t : ℕ} {w : Work} (k : ℕ) → Ahead (suc k) g t w → (i : ℕ) → i < k
    → chain_at i (reached (split_at (chain_end (reached w) t) w)) t ≡ chain_at i (reached w) t
ahead_stays zero A i b = absurd (omega arith)
ahead_stays {t = t} {w = w} (suc k) A i b =
    let E = ahead_end A in
    places_stay (chain_end (reached w) t) _ _ _ (reached w) (reached (split_at (chain_end (reached w) t) w))
    A.manifold A.bases_meet E.in_use E.fit (ahead_splitting A).result t i k A.in_use
    (path_of_two A) (omega arith)

-- The chain then ends across the base of the last of them.
pub ahead_across : {k g t : ℕ} {w : Work} → Ahead (suc (suc k)) g t w →
    let x = reached (split_at (chain_end (reached w) t) w) in
    Across (chain_at k (reached w) t) (chain_end x t) x
unfolding chain_at
ahead_across {k} {t = t} {w = w} A =
    let B = ahead_on A in
    let x : Topology = reached (split_at (chain_end (reached w) t) w) in
    let p = (path_after A).0 in
    subst (λ (y : ℕ). Across y (chain_end x t) x) (ahead_stays (suc k) A k (omega arith)) (record {
      in_use = path_within k 1 B.manifold B.bases_meet B.in_use (omega arith) p;
      next = path_last p;
    })

-- ---- refine is that loop

raise_is_split_ends : {g t : ℕ} (k n : ℕ) (w : Work) → k ≤ n → Ahead k g t w → raise n g t w ≡ split_ends k t w
unfolding split_ends
raise_is_split_ends {g} {t} zero n w i A = raise_stops n g t w A.rising
raise_is_split_ends (suc k) zero w i A = absurd (omega arith)
raise_is_split_ends {g} {t} (suc k) (suc n) w i A =
    raise_splits n g t (chain_end (reached w) t) w (omega (arith, A.rising.0)) refl
    ∙ raise_is_split_ends k n _ (omega arith) (ahead_on A)

-- A flip is counted once, so that a split counts three flips at most.
pub settle_counts : (s : ℕ) (w : Work) → (settle s w).flips ≤ w.flips + 1
unfolding settle
settle_counts s w = go (is_base (reached w) (link (reached w) (3 * s)))
  where
    go : (b : Bool) →
        let flipped = with_flip s (link (reached w) (3 * s) / 3) (with_topology (flip s (link (reached w) (3 * s) / 3) (reached w)) w.mesh) w in
        let x : Work = elim b [ true ↦ flipped | false ↦ w ] in
        x.flips ≤ w.flips + 1
    go true = omega arith
    go false = omega arith

face_split_counts : (t : ℕ) (w : Work) → (face_split t w).flips ≤ w.flips + 3
unfolding face_split
face_split_counts t w =
    let f : ℕ = (reached w).triangles in
    let a : Work = with_split t (face_placed t w.mesh) w in
    let b : Work = settle t a in
    omega (arith, settle_counts t a, settle_counts f b, settle_counts (f + 1) (settle f b))

rim_split_counts : (t : ℕ) (w : Work) → (rim_split t w).flips ≤ w.flips + 3
unfolding rim_split
rim_split_counts t w =
    let f : ℕ = (reached w).triangles in
    let a : Work = with_split t (rim_placed t w.mesh) w in
    omega (arith, settle_counts t a, settle_counts (f + 1) (settle t a))

pub split_counts : (t : ℕ) (w : Work) → Splittable (reached w) t → (split_at t w).flips ≤ w.flips + 3
split_counts t w (is_even e) = rw (split_even t w e) (face_split_counts t w)
split_counts t w (on_boundary o e) = rw (split_odd t w o) (rim_split_counts t w)

-- The vertices that the splits left take: one each, and one more where the next is a rim split.
abbrev pub vertices_left : ℕ → ℕ → Topology → ℕ
vertices_left zero t m = 0
vertices_left (suc k) t m = suc k + rim_splits_of m t

-- Refining t in m, at work w, with some splits left. The slots hold the chain's odd triangles but the last: the splits
-- after the next lie across their bases.
pub record Refining (t : ℕ) (m : Mesh) (slots : List ℕ) (left : ℕ) (w : Work) : Type 0 where
  pub ahead : Ahead left (generation m.topology t) t w
  pub result : split_ends left t w ≡ refine t (at_first m)
  pub splits : w.splits + left ≡ splits_of m.topology t
  pub flips : w.flips ≤ 3 * w.splits
  pub vertices : (reached w).vertices + vertices_left left t (reached w) ≤ vertex_slots m
  pub room : SameSlots m w.mesh
  pub remembered : (i : ℕ) → suc i < left → get_or slots i 0 ≡ chain_at i (reached w) t

-- What the next split, of v, finds.
pub record NextSplit (v : ℕ) (w : Work) : Type 0 where
  pub tables : TablesAgree w.mesh
  pub in_use : v < (reached w).triangles
  pub young : generation (reached w) v < 20
  pub room : RoomFor (1 + rim_of (reached w) v) 2 w.mesh

module _ {t : ℕ} {m : Mesh} (R : RefineFound t m) where
  pub ahead : Ahead (splits_of m.topology t) (generation m.topology t) t (at_first m)
  ahead = record {
    manifold = sound_manifold R.sound;
    bases_meet = sound_bases R.sound;
    in_use = R.in_use;
    room = sound_room (splits_of m.topology t) R.sound.tables R.room;
    rising = go (splits_of m.topology t) refl;
  }
    where
      go : (k : ℕ) → splits_of m.topology t ≡ k → Rising k (generation m.topology t) t m.topology
      go zero e = absurd (omega arith)
      go (suc k) e = (
        refl,
        record {
          steps = chain_odd m.topology t - rim_splits_of m.topology t;
          path = chain_path t m R.sound R.in_use;
          splits = e;
        },
      )

  -- Where nothing is refused, refine is as many splits as t takes.
  pub refine_is_split_ends : refine t (at_first m) ≡ split_ends (splits_of m.topology t) t (at_first m)
  unfolding refine
  refine_is_split_ends =
      raise_is_split_ends (splits_of m.topology t) _ (at_first m)
      (omega (arith, chain_bound t m R.sound R.in_use)) ahead

  pub few_splits : splits_of m.topology t ≤ 10
  few_splits = omega (arith, chain_bound t m R.sound R.in_use, found_young R)

  module _ {slots : List ℕ} where
    pub refining_begins : ((i : ℕ) → i < chain_odd m.topology t → get_or slots i 0 ≡ chain_at i m.topology t)
        → Refining t m slots (splits_of m.topology t) (at_first m)
    refining_begins f = record {
      ahead = ahead;
      result = sym refine_is_split_ends;
      splits = omega arith;
      flips = omega arith;
      vertices = begun (splits_of m.topology t) (omega arith) R.room.vertices;
      room = record { positions = refl; corners = refl; links = refl; generations = refl; locks = refl };
      remembered = λ i b. f i (omega arith);
    }
      where
        begun : (s : ℕ) → 0 < s → m.topology.vertices + (s + rim_splits_of m.topology t) ≤ vertex_slots m
            → m.topology.vertices + vertices_left s t m.topology ≤ vertex_slots m
        begun zero i v = absurd (omega arith)
        begun (suc s) i v = v

    pub refining_ends : {w : Work} → Refining t m slots 0 w → w ≡ refine t (at_first m)
    unfolding split_ends
    refining_ends N = N.result

    module _ {k : ℕ} {w : Work} (N : Refining t m slots (suc k) w) where
      pub refining_next : NextSplit (chain_end (reached w) t) w
      refining_next =
          let E = ahead_end N.ahead in
          record {
            tables = agree_on R.sound.tables N.room;
            in_use = E.in_use;
            young = omega (arith, E.young, found_young R);
            room = record {
              vertices = omega (arith, N.vertices);
              triangles = omega (arith, N.ahead.room.generations);
            };
          }

      vertices_on : {w : Work} (k : ℕ) (A : Ahead (suc k) (generation m.topology t) t w)
          → (reached w).vertices + (suc k + rim_splits_of (reached w) t) ≤ vertex_slots m
          → let x = reached (split_at (chain_end (reached w) t) w) in
          x.vertices + vertices_left k t x ≤ vertex_slots m
      vertices_on {w} zero A i =
          omega (arith, (ahead_splitting A).result.vertices)
      vertices_on {w} (suc k) A i =
          let e : rim_splits_of (reached (split_at (chain_end (reached w) t) w)) t ≡ 0 = (path_after A).1 in
          omega (arith, (ahead_splitting A).result.vertices)

      pub refining_on : Refining t m slots k (split_at (chain_end (reached w) t) w)
      unfolding split_ends
      refining_on =
          let v : ℕ = chain_end (reached w) t in
          let X = ahead_splitting N.ahead in
          let S = X.result in
          let L = N.room in
          record {
            ahead = ahead_on N.ahead;
            result = N.result;
            splits = omega (arith, X.splits, N.splits);
            flips = omega (arith, X.splits, N.flips, split_counts v w (ahead_end N.ahead).fit);
            vertices = vertices_on k N.ahead N.vertices;
            room = record {
              positions = X.places.size ∙ L.positions;
              corners = S.corners ∙ L.corners;
              links = S.links ∙ L.links;
              generations = S.generations ∙ L.generations;
              locks = X.places.locks.size ∙ L.locks;
            };
            remembered = λ i b. N.remembered i (omega arith) ∙ sym (ahead_stays k N.ahead i (omega arith));
          }

    -- The split after it is across the base of the last triangle that is remembered.
    module _ {k : ℕ} {w : Work} (N : Refining t m slots (suc (suc k)) w) where
      pub refining_across : Across (get_or slots k 0) (chain_end (reached (split_at (chain_end (reached w) t) w)) t)
          (reached (split_at (chain_end (reached w) t) w))
      refining_across = rw (N.remembered k (omega arith)) (ahead_across N.ahead)
