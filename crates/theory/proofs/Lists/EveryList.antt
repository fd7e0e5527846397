-- What holds of every list: refused before its entries, empty, with repeats; and what the spare tables hold after it.
use mathlib.Core.Path.{◌≡◌, refl, sym, ap, ◌∙◌, subst}
use mathlib.Core.Logic.{◌≢◌}
use mathlib.Core.List.{List, [], ◌∷◌, ◌++◌}
use Prim.Native.Nat.{ℕ, zero, suc, ◌<◌}
use native.Mathlib.Decide.{ℕ_discrete}
use native.Mathlib.Omega.{arith}
use lib.ListN.{length, get_or}
use Rattle.theory.proofs.Lists.AllOrNothing.{work_refused, work_held}
use Rattle.theory.proofs.Lists.Entries.{stopped, handled_then, fails_computed}
use Rattle.theory.proofs.Lists.Holding.{going_sizes}
use Rattle.theory.proofs.Lists.ListCall.{spares_pass, spares_sound, folded, passed_again, not_refused}
use Rattle.theory.proofs.Spares.OverSpares.{over_sound}
use Rattle.rules.specs.Calls.{spare_room, refused_with}
use Rattle.rules.specs.Conditions.{FailsAfter}
use Rattle.rules.specs.Lists.{Progress, begun, goes_on, entry_refusal, entry_work, handle, handle_all}
use Rattle.rules.specs.Lists.{refine_each, spares_refusal, all_or_nothing, list_call}
use Rattle.rules.specs.Promises.{SameWork}
use Rattle.rules.specs.Sound.{Sound}
use Rattle.rules.specs.Spares.{Spares, copied, mesh_in, SameSizes}
use Rattle.rules.specs.Split.{Work}
use Rattle.rules.specs.Tables.{Mesh}

-- Refused with 1, 17 or 7.
pub refused_first : (list : List ℕ) (spares : Spares) (m : Mesh) → spares_refusal spares m ≢ 0
    → list_call list spares m ≡ refused_with (spares_refusal spares m) m (spare_room spares)
unfolding list_call
refused_first list spares m = work_refused _ (refine_each list m) spares m

pub empty_list_lem : (spares : Spares) (m : Mesh) → SameSizes spares m → Sound m
    → list_call [] spares m ≡ all_or_nothing 0 (begun m) spares m
unfolding handle_all
empty_list_lem spares m L S = not_refused [] spares m (spares_pass spares m L S)

-- The spare tables hold what the entries made, which is sound.
pub held_in_spares_lem : (list : List ℕ) (spares : Spares) (m : Mesh) → SameSizes spares m → Sound m
    → let n = (refine_each list m).work.mesh in
    ((list_call list spares m).room ≡ spare_room (copied n spares)) × Sound (mesh_in (copied n spares) n)
unfolding list_call
held_in_spares_lem list spares m L S =
    let G = (folded list spares m S).going in (
      work_held _ (refine_each list m) spares m (spares_pass spares m L S),
      over_sound (going_sizes L G) G.sound,
    )

-- A list fails at one place, with one number.
pub one_failure : {list : List ℕ} {m : Mesh} {k k' n n' : ℕ} {w w' : Work} → Sound m → FailsAfter list m k w n
    → FailsAfter list m k' w' n' → (k ≡ k') × (n ≡ n')
one_failure S F G =
    let e = sym (fails_computed S F) ∙ fails_computed S G in
    (ap (λ (p : Progress). p.handled) e, ap (λ (p : Progress). p.refusal) e)

-- ---- repeats

-- The same but for how many entries succeeded.
record Alike (p q : Progress) : Type 0 where
  work : p.work ≡ q.work
  refusal : p.refusal ≡ q.refusal

-- How far a list has come: the work w, k entries that succeeded, and the refusal n.
abbrev reached_at : Work → ℕ → ℕ → Progress
reached_at w n k = record { work = w; handled = k; refusal = n }

-- How many succeeded before does not matter to those that follow.
all_alike : (m : Mesh) (list : List ℕ) (w : Work) (n k j : ℕ)
    → Alike (handle_all m list (reached_at w n k)) (handle_all m list (reached_at w n j))
unfolding handle_all handle
all_alike m [] w n k j = record { work = refl; refusal = refl }
all_alike m (t ∷ rest) w (suc n) k j = all_alike m rest w (suc n) k j
all_alike m (t ∷ rest) w zero k j = go (entry_refusal m t w.mesh) (all_alike m rest)
  where
    go : (e : ℕ)
        → ((w : Work) (n k j : ℕ) → Alike (handle_all m rest (reached_at w n k)) (handle_all m rest (reached_at w n j)))
        → let at : ℕ → Progress = λ k. handle_all m rest (goes_on e (entry_work m t w) (reached_at w 0 k)) in
        Alike (at k) (at j)
    go zero f = f (entry_work m t w) 0 (suc k) (suc j)
    go (suc e) f = f w (suc e) k j

one_more_lem : (m : Mesh) (list : List ℕ) (p : Progress) → p.refusal ≡ 0
    → Alike (handle_all m list (goes_on 0 p.work p)) (handle_all m list p)
one_more_lem m list p z =
    let more = handle_all m list (goes_on 0 p.work p) in
    subst (λ (n : ℕ). Alike more (handle_all m list (reached_at p.work n p.handled))) (sym z)
    (all_alike m list p.work 0 (suc p.handled) p.handled)

-- Then the call does the same.
done_alike : (spares : Spares) (m : Mesh) {p q : Progress} → Alike p q →
    let a = all_or_nothing p.refusal p spares m in
    let b = all_or_nothing q.refusal q spares m in
    SameWork a b × (a.room ≡ b.room)
done_alike spares m {p} {q} A = go p.refusal q.refusal A.refusal
  where
    of : {B : Type 0} (f : Work → B) → f p.work ≡ f q.work
    of f = ap f A.work

    go : (n k : ℕ) → n ≡ k →
        let a = all_or_nothing n p spares m in
        let b = all_or_nothing k q spares m in
        SameWork a b × (a.room ≡ b.room)
    go zero (suc k) e = absurd (omega arith)
    go (suc n) zero e = absurd (omega arith)
    go zero zero e = (
      record {
        refusal = refl;
        splits = of (λ w. w.splits);
        flips = of (λ w. w.flips);
        vertices = of (λ w. w.mesh.topology.vertices);
        triangles = of (λ w. w.mesh.topology.triangles);
        rule = of (λ w. w.mesh.rule);
        mesh = of (λ w. w.mesh);
      },
      of (λ w. spare_room (copied w.mesh spares)),
    )
    go (suc n) (suc k) e = (
      record {
        refusal = e;
        splits = refl;
        flips = refl;
        vertices = refl;
        triangles = refl;
        rule = refl;
        mesh = refl;
      },
      of (λ w. spare_room (copied w.mesh spares)),
    )

-- t stands in such a list, at this place.
entry_in : (t : ℕ) (xs ys : List ℕ)
    → (get_or (xs ++ (t ∷ ys)) (length xs) 0 ≡ t) × (length xs < length (xs ++ (t ∷ ys)))
entry_in t [] ys = (refl, omega arith)
entry_in t (x ∷ xs) ys = let I = entry_in t xs ys in (I.0, omega (arith, I.1))

module _ (t : ℕ) (xs ys zs : List ℕ) (spares : Spares) (m : Mesh) where
  abbrev first : List ℕ
  first = xs ++ (t ∷ ys)

  abbrev made : Progress
  made = refine_each first m

  twice_alike : Sound m → Alike (refine_each (first ++ (t ∷ zs)) m) (refine_each (first ++ zs) m)
  unfolding handle_all
  twice_alike S =
      rw (handled_then m first (t ∷ zs) (begun m), handled_then m first zs (begun m))
      (go (ℕ_discrete made.refusal 0))
    where
      go : Dec (made.refusal ≡ 0) → Alike (handle_all m zs (handle m t made)) (handle_all m zs made)
      go (yes z) =
          let I = entry_in t xs ys in
          let again : handle m t made ≡ goes_on 0 made.work made =
          rw I.0 at (passed_again first spares m S z (length xs) I.1) in
          rw again (one_more_lem m zs made z)
      go (no n) = rw (stopped m (t ∷ []) made n) (record { work = refl; refusal = refl })

  -- A triangle listed again changes nothing but how many entries succeed.
  pub listed_twice_lem :
      let a = list_call (first ++ (t ∷ zs)) spares m in
      let b = list_call (first ++ zs) spares m in
      SameWork a b × (a.room ≡ b.room)
  listed_twice_lem = go (ℕ_discrete (spares_refusal spares m) 0)
    where
      go : Dec (spares_refusal spares m ≡ 0) →
          let a = list_call (first ++ (t ∷ zs)) spares m in
          let b = list_call (first ++ zs) spares m in
          SameWork a b × (a.room ≡ b.room)
      go (yes z) =
          rw (not_refused (first ++ (t ∷ zs)) spares m z, not_refused (first ++ zs) spares m z)
          (done_alike spares m (twice_alike (spares_sound spares m z).1))
      go (no n) =
          rw (refused_first (first ++ (t ∷ zs)) spares m n, refused_first (first ++ zs) spares m n) (
            record {
              refusal = refl;
              splits = refl;
              flips = refl;
              vertices = refl;
              triangles = refl;
              rule = refl;
              mesh = refl;
            },
            refl,
          )
