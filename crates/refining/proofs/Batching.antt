-- Work in spare tables: its start, a list's entries by the answers of their tests, and what is carried back.
use borrow.Author.Tests.{le-leb, lt-leb, lt-ltb, le-ltb}
use mathlib.Core.Bool.{Bool, true, false}
use mathlib.Core.List.{List, [], append-nil}
use mathlib.Core.Logic.{◌≢◌}
use mathlib.Core.Path.{◌≡◌, refl, sym, ap, ap₂, ◌∙◌, subst}
use Prim.Native.Nat.{ℕ, ◌+◌, ◌*◌, ◌≤◌, ◌<◌}
use native.Mathlib.Omega.{arith}
use lib.Dec.{leb}
use lib.IntN.{ℤ}
use lib.ListN.{length, get_or}
use Rattle.theory.proofs.Chains.Going.{Going}
use Rattle.theory.proofs.Lists.Holding.{Done, going_sizes, holding_length}
use Rattle.theory.proofs.Lists.InSpares.{entry_outcome, Doing, doing_begins, doing_on, doing_stops, doing_ends}
use Rattle.theory.proofs.Lists.ListCall.{folded}
use Rattle.theory.proofs.Numbers.Fill.{length_fill}
use Rattle.theory.proofs.Soundness.Relaxed.{SameSlots}
use Rattle.theory.proofs.Spares.OverSpares.{over, over_sound}
use Rattle.rules.specs.Calls.{Outcome, no_room, refused_with, worked, unless}
use Rattle.rules.specs.Calls.{refine_refusal, refine_call}
use Rattle.rules.specs.Lists.{Progress, risen, entry_refusal, entry_work, refine_each}
use Rattle.rules.specs.Sound.{Sound}
use Rattle.rules.specs.Spares.{Spares, copied, mesh_in, SameSizes}
use Rattle.rules.specs.Split.{Work, at_first, refine}
use Rattle.rules.specs.Tables.{Mesh, generation}
use Rattle.tables.specs.declared.Counts.{Counts}
use Rattle.tables.specs.Lent.{mesh_now, spares_now, HasSlots}
use Rattle.reporting.specs.Told.{Tells, Told, told_unless}
use Rattle.reporting.proofs.Telling.{tells_none, tells_on}
use Rattle.refining.specs.Batches.{StartsWith, Begins, Handles, Made, MayWork}
use Rattle.refining.specs.declared.spares.Batch.{Batch}
use Rattle.tables.proofs.Standing.{standing_sound}
use Rattle.refining.proofs.Telling.{tells_to, told_zero, told_nothing}

module _ (m x : Mesh) (f t : ℕ) (g : List ℕ) (W : StartsWith f g m) where
  by_tests : {c r : Bool} → leb m.topology.triangles t ≡ c → risen m t x ≡ r →
      let n : ℕ = elim c [ true ↦ 8 | false ↦ elim r [ true ↦ 0 | false ↦ refine_refusal t x ] ] in
      let w : Work = elim r [ true ↦ at_first x | false ↦ refine t (at_first x) ] in
      unless n x no_room (worked w) ≡ entry_outcome m t x
  unfolding entry_refusal entry_work
  by_tests e q =
      ap₂ (λ (c r : Bool).
      let n : ℕ = elim c [ true ↦ 8 | false ↦ elim r [ true ↦ 0 | false ↦ refine_refusal t x ] ] in
      let w : Work = elim r [ true ↦ at_first x | false ↦ refine t (at_first x) ] in
      unless n x no_room (worked w))
      (sym e) (sym q)

  pub entry_eight : f ≤ t → refused_with 8 x no_room ≡ entry_outcome m t x
  entry_eight l = by_tests (le-leb m.topology.triangles t (omega (arith, W.triangles))) refl

  module _ (l : t < f) where
    counted : leb m.topology.triangles t ≡ false
    counted = lt-leb m.topology.triangles t (omega (arith, W.triangles))

    pub entry_passed : get_or g t 0 < generation x.topology t → worked (at_first x) ≡ entry_outcome m t x
    entry_passed r = by_tests counted (lt-ltb _ _ (rw W.generations at r))

    pub entry_refined : generation x.topology t ≤ get_or g t 0 → refine_call t x ≡ entry_outcome m t x
    unfolding refine_call
    entry_refined r = by_tests counted (le-ltb _ _ (rw W.generations at r))

  -- What is told of it.
  work_by : {r : Bool} → risen m t x ≡ r
      → entry_work m t (at_first x) ≡ elim r [ true ↦ at_first x | false ↦ refine t (at_first x) ]
  unfolding entry_work
  work_by q = ap (λ (r : Bool). elim r [ true ↦ at_first x | false ↦ refine t (at_first x) ]) q

  pub passed_told : {b : List ℕ} {at : ℕ} → get_or g t 0 < generation x.topology t
      → Told (entry_work m t (at_first x)).report b b at
  passed_told {b} {at} r = rw (work_by (lt-ltb _ _ (rw W.generations at r))) (at, tells_none at b)

  pub refined_told : (n : ℕ) {a b : List ℕ} {at : ℕ} → generation x.topology t ≤ get_or g t 0
      → Told (told_unless n (refine t (at_first x)).report) a b at
      → Told (told_unless n (entry_work m t (at_first x)).report) a b at
  refined_told n r T = rw (work_by (le-ltb _ _ (rw W.generations at r))) T

-- ---- the start

module _ {m x : Mesh} {s : Spares} {g : List ℕ} (B : Begins m s g x) where
  pub begins_with : StartsWith x.topology.triangles g m
  begins_with = record {
    triangles = ap (λ (y : Mesh). y.topology.triangles) B.tables;
    generations = B.generations;
  }

  pub begins_doing : (list : List ℕ) → Doing m s list 0 0 0 [] x
  begins_doing list = rw B.tables (doing_begins list B.sizes B.sound)

-- ---- what is told of the entries

-- The first entries of a list are handled, and told from the start of a buffer on.
abbrev pub DoingTold : Mesh → Spares → List ℕ → ℕ → ℕ → ℕ → List ℕ → List ℕ → Mesh → Type 0
DoingTold m s list at k f a b x = (l : List ℕ) × Doing m s list at k f l x × Tells l a b 0 (3 * k + 2 * f)

pub told_begins : {m x : Mesh} {s : Spares} {g : List ℕ} → Begins m s g x → (list b : List ℕ)
    → DoingTold m s list 0 0 0 b b x
told_begins B list b = ([], begins_doing B list, tells_none 0 b)

module _ {m : Mesh} {s : Spares} {list : List ℕ} {at k f : ℕ} {a b : List ℕ} {x : Mesh}
    (D : DoingTold m s list at k f a b x) where
  told_list : {c : List ℕ} {i : ℕ} → D.0 ≡ (refine_each list m).work.report → Tells D.0 a c 0 i
      → Told (refine_each list m).work.report a c 0
  told_list {c} {i} e T = (i, subst (λ (l : List ℕ). Tells l a c 0 i) e T)

  pub told_ends : at ≡ length list
      → Done (refine_each list m) s 0 at k f x × Told (refine_each list m).work.report a b 0
  told_ends e = let (F, q) = doing_ends D.1 e in (F, told_list q D.2)

  module _ {o : Outcome} {c : List ℕ} (i : at < length list) (e : o ≡ entry_outcome m (get_or list at 0) x)
      (T :
      Told (told_unless o.answer.refusal (entry_work m (get_or list at 0) (at_first x)).report) b c (3 * k + 2 * f))
    where
      pub told_goes_on : o.answer.refusal ≡ 0
          → DoingTold m s list (at + 1) (k + o.answer.splits) (f + o.answer.flips) a c o.mesh
      told_goes_on z =
          let G = doing_on D.1 i e z in
          let (_, U) = told_zero _ _ T z in
          (_, G, tells_to (tells_on D.2 U) (holding_length G.held))

      pub told_stops : o.answer.refusal ≢ 0
          → Done (refine_each list m) s o.answer.refusal at k f o.mesh
          × Told (refine_each list m).work.report a c 0
      told_stops z =
          let (F, q) = doing_stops D.1 i e z in
          let (j, U) = told_nothing _ _ T z in
          (F, told_list q (subst (λ (l : List ℕ). Tells l a c 0 j) (append-nil D.0) (tells_on D.2 U)))

-- ---- the tables keep their lengths

pub over_sizes : (s : Spares) (m : Mesh) → SameSizes s (over s m)
unfolding copied
over_sizes s m = record {
  positions = sym (length_fill _ _ s.positions);
  corners = sym (length_fill _ _ s.corners);
  links = sym (length_fill _ _ s.links);
  generations = sym (length_fill _ _ s.generations);
  locks = sym (length_fill _ _ s.locks);
}

-- Two meshes copied into the same tables.
pub over_slots : (s : Spares) (m n : Mesh) {x y : Mesh} → x ≡ over s m → y ≡ over s n → SameSlots x y
over_slots s m n e f =
    let a = over_sizes s m in
    let b = over_sizes s n in
    rw (e, f) (record {
      positions = sym b.positions ∙ a.positions;
      corners = sym b.corners ∙ a.corners;
      links = sym b.links ∙ a.links;
      generations = sym b.generations ∙ a.generations;
      locks = sym b.locks ∙ a.locks;
    })

-- ---- slots for what is copied

pub has_slots : (n : Counts) {p : List ℤ} {c l g k : List ℕ} → Sound (mesh_now n p c l g k) → HasSlots n (spares_now p c l g k)
has_slots n S =
    let A = S.tables in
    record {
      positions = omega (arith, A.positions, S.vertex_room);
      corners = omega (arith, A.corners, S.triangle_room);
      links = omega (arith, A.links, S.triangle_room);
      generations = S.triangle_room;
      locks = omega (arith, A.locks, S.triangle_room);
    }

-- Tables as long have the same.
pub same_slots : {n : Counts} {s t : Spares} → HasSlots n s → length t.positions ≡ length s.positions
    → length t.corners ≡ length s.corners → length t.links ≡ length s.links
    → length t.generations ≡ length s.generations → length t.locks ≡ length s.locks → HasSlots n t
same_slots H a b c d e = record {
  positions = omega (arith, H.positions);
  corners = omega (arith, H.corners);
  links = omega (arith, H.links);
  generations = omega (arith, H.generations);
  locks = omega (arith, H.locks);
}

module _ {m : Mesh} {s : Spares} (W : MayWork m s) where
  pub may_sound : Sound m
  may_sound = standing_sound m 0 W.stands refl

  pub may_begin : {x : Spares} → x ≡ copied m s → Begins m s m.topology.generations (mesh_in x m)
  may_begin e = record {
    sound = may_sound;
    sizes = W.sizes;
    generations = refl;
    tables = ap (λ (y : Spares). mesh_in y m) e;
  }

-- The mesh copied into the spare tables, and what was made of it copied back.
module _ (n : Counts) {p : List ℤ} {c l g k : List ℕ} {s : Spares} where
  pub slots_there : MayWork (mesh_now n p c l g k) s
      → HasSlots n (spares_now p c l g k) × HasSlots n s
  slots_there W =
      let H = has_slots n (may_sound W) in
      let L = W.sizes in
      (H, same_slots H L.positions L.corners L.links L.generations L.locks)

  pub slots_back : (r : Counts) {w : Progress} {q : List ℤ} {c' l' g' k' : List ℕ} {e at i j : ℕ}
      → SameSizes s (mesh_now n p c l g k) → Going (mesh_now n p c l g k) w.work
      → Done w s e at i j (mesh_now r q c' l' g' k') → HasSlots r (spares_now q c' l' g' k') × HasSlots r (spares_now p c l g k)
  slots_back r {w} {q} {c'} {l'} {g'} {k'} L G D =
      let m = mesh_now n p c l g k in
      let X : Sound (mesh_now r q c' l' g' k') = rw D.tables (over_sound (going_sizes L G) G.sound) in
      let H = has_slots r X in
      let R = over_slots s m w.work.mesh refl D.tables in
      let Z = over_sizes s m in (
        H,
        same_slots H (sym L.positions ∙ Z.positions ∙ sym R.positions)
            (sym L.corners ∙ Z.corners ∙ sym R.corners) (sym L.links ∙ Z.links ∙ sym R.links)
            (sym L.generations ∙ Z.generations ∙ sym R.generations)
            (sym L.locks ∙ Z.locks ∙ sym R.locks),
      )

-- What a list made.
pub list_going : (list : List ℕ) {m : Mesh} {s : Spares} → MayWork m s → Going m (refine_each list m).work
list_going list {m} {s} W = (folded list s m (may_sound W)).going

pub list_made : (list : List ℕ) {m : Mesh} {s : Spares} {r : Batch} {x : Mesh} → MayWork m s → Handles list m s r x
    → Made (refine_each list m) s m r x
list_made list W D = record { sizes = W.sizes; going = list_going list W; done = D }
