-- A preview answers and leaves in the spare tables what the list would, and can be repeated.
use mathlib.Core.Path.{◌≡◌, refl, ap, ◌∙◌}
use mathlib.Core.Logic.{◌≢◌}
use mathlib.Core.List.{List}
use Prim.Native.Nat.{ℕ, zero, suc, ◌*◌}
use native.Mathlib.Omega.{arith}
use lib.IntN.{pos}
use Rattle.theory.proofs.Lists.Holding.{going_sizes}
use Rattle.theory.proofs.Lists.ListCall.{same_sizes_is, spares_sound, list_refusal}
use Rattle.theory.proofs.Lists.ListCall.{list_refused_is, both_zero, folded}
use Rattle.theory.proofs.Numbers.Decide.{is_true, is_same}
use Rattle.theory.proofs.Numbers.Fill.{length_fill, get_or_fill, fill_again}
use Rattle.rules.specs.Calls.{Outcome, outcome_of, spare_room, unless}
use Rattle.rules.specs.Conditions.{First, list_conditions}
use Rattle.rules.specs.Lists.{refine_each, spares_refusal, all_or_nothing, list_call, preview_call}
use Rattle.rules.specs.Promises.{refused_work, refused_list, AgreeInUse}
use Rattle.rules.specs.Sound.{Sound}
use Rattle.rules.specs.Spares.{Spares, copied, SameSizes, same_sizes}
use Rattle.rules.specs.Tables.{Mesh, sides}

-- ---- copies

-- What is copied is there.
copied_agrees : {s : Spares} {m : Mesh} → SameSizes s m → Sound m → AgreeInUse (copied m s) m
unfolding copied
copied_agrees {s} {m} L S =
    let A = S.tables in
    record {
      positions = λ i b.
          get_or_fill _ _ s.positions i (pos 0) (omega (arith, L.positions, A.positions, S.vertex_room)) b;
      corners = λ i b. get_or_fill _ _ s.corners i 0 (omega (arith, L.corners, A.corners, S.triangle_room)) b;
      links = λ i b. get_or_fill _ _ s.links i 0 (omega (arith, L.links, A.links, S.triangle_room)) b;
      generations = λ i b. get_or_fill _ _ s.generations i 0 (omega (arith, L.generations, S.triangle_room)) b;
      locks = λ i b. get_or_fill _ _ s.locks i 0 (omega (arith, L.locks, A.locks, S.triangle_room)) b;
    }

-- Copied twice is copied once, and the tables keep their lengths.
pub copied_twice : (m : Mesh) (s : Spares) → copied m (copied m s) ≡ copied m s
unfolding copied
copied_twice m s = rw (
  fill_again (3 * m.topology.vertices) _ s.positions,
  fill_again (sides m.topology) _ s.corners,
  fill_again (sides m.topology) _ s.links,
  fill_again m.topology.triangles _ s.generations,
  fill_again m.topology.triangles _ s.locks,
)

copied_sizes : (n : Mesh) (s : Spares) (m : Mesh) → same_sizes (copied n s) m ≡ same_sizes s m
unfolding copied same_sizes
copied_sizes n s m = rw (
  length_fill _ _ s.positions,
  length_fill _ _ s.corners,
  length_fill _ _ s.links,
  length_fill _ _ s.generations,
  length_fill _ _ s.locks,
)

-- ---- the preview and the list

module _ (list : List ℕ) (spares : Spares) (m : Mesh) where
  pub preview_refusal : First (list_conditions list spares m) (preview_call list spares m).answer.refusal
  unfolding preview_call
  preview_refusal = list_refusal list spares m

  pub preview_refused_is : (preview_call list spares m).answer.refusal ≢ 0
      → preview_call list spares m ≡ refused_list list spares (preview_call list spares m).answer.refusal m
  unfolding preview_call
  preview_refused_is x =
      ap (λ (o : Outcome). outcome_of o.answer m o.room) (list_refused_is list spares m x)
      ∙ stands _ (spares_refusal spares m)
    where
      stands : (r n : ℕ) →
          let o = refused_work n (refine_each list m) spares r m in
          outcome_of o.answer m o.room ≡ o
      stands r zero = refl
      stands r (suc n) = refl

  pub preview_is : preview_call list spares m
      ≡ outcome_of (list_call list spares m).answer m (list_call list spares m).room
  unfolding preview_call
  preview_is = refl

  pub preview_stands : (preview_call list spares m).mesh ≡ m
  unfolding preview_call
  preview_stands = refl

-- Which spare tables are lent does not matter, as long as they are of the mesh's sizes.
module _ (list : List ℕ) {s t : Spares} {m : Mesh} (a : SameSizes s m) (b : SameSizes t m) where
  refusal_same : spares_refusal s m ≡ spares_refusal t m
  unfolding spares_refusal
  refusal_same = rw (is_same (same_sizes_is s m) (is_true a), is_same (same_sizes_is t m) (is_true b)) refl

  pub preview_same : (preview_call list s m).answer ≡ (list_call list t m).answer
  unfolding preview_call list_call
  preview_same = rw refusal_same (go (spares_refusal t m) (refine_each list m).refusal)
    where
      go : (n k : ℕ) →
          let p = refine_each list m in
          (unless n m (spare_room s) (all_or_nothing k p s m)).answer
          ≡ (unless n m (spare_room t) (all_or_nothing k p t m)).answer
      go zero zero = refl
      go zero (suc k) = refl
      go (suc n) k = refl

  -- Where the list is carried out, it makes of the mesh what the preview left in the spare tables.
  pub preview_shows : (list_call list t m).answer.refusal ≡ 0
      → AgreeInUse (preview_call list s m).room.spares (list_call list t m).mesh
  unfolding preview_call list_call
  preview_shows z =
      let (e, k) = both_zero list t m z in
      let G = (folded list t m (spares_sound t m e).1).going in
      rw (refusal_same ∙ e, e, k) (copied_agrees (going_sizes a G) G.sound)

-- A preview leaves spare tables in which the list, and a preview repeated, come out as in those that it was lent.
module _ (list : List ℕ) (s : Spares) (m : Mesh) where
  abbrev made : Mesh
  made = (refine_each list m).work.mesh

  refusal_again : spares_refusal (copied made s) m ≡ spares_refusal s m
  unfolding spares_refusal
  refusal_again = rw (copied_sizes made s m) refl

  pub list_after : list_call list (preview_call list s m).room.spares m ≡ list_call list s m
  unfolding preview_call list_call
  list_after = go (spares_refusal s m) refl (refine_each list m).refusal
    where
      done : ℕ → ℕ → Spares → Outcome
      done n k t = unless n m (spare_room t) (all_or_nothing k (refine_each list m) t m)

      go : (n : ℕ) → spares_refusal s m ≡ n → (k : ℕ) →
          let t = (done n k s).room.spares in
          done (spares_refusal t m) k t ≡ done n k s
      go zero e zero = rw (refusal_again ∙ e, copied_twice made s) refl
      go zero e (suc k) = rw (refusal_again ∙ e, copied_twice made s) refl
      go (suc n) e k = rw e refl

  pub preview_again : preview_call list (preview_call list s m).room.spares m ≡ preview_call list s m
  unfolding preview_call
  preview_again = ap (λ (o : Outcome). outcome_of o.answer m o.room) list_after
