-- A list handled in spare tables, entry by entry: they hold the copy of what it makes of the mesh.
use mathlib.Core.Path.{◌≡◌, refl, sym, ap, ap₂, ◌∙◌}
use mathlib.Core.Logic.{◌≢◌}
use mathlib.Core.Bool.{Bool, true, false}
use mathlib.Core.List.{List, [], ◌++◌, append-nil}
use Prim.Native.Nat.{ℕ, zero, suc, ◌+◌, ◌≤◌, ◌<◌}
use native.Mathlib.Nat.{add-zero}
use native.Mathlib.Numerals.{add-one}
use native.Mathlib.Omega.{arith}
use borrow.Author.Tests.{leb-false}
use lib.Dec.{leb, ltb}
use lib.ListN.{length, get_or, drop}
use lib.Seq.{drop-cons, drop-length}
use Rattle.theory.proofs.Lists.Holding.{Holding, holding_begins, holding_sizes, Done, holding_done, holding_on}
use Rattle.theory.proofs.Lists.Entries.{stopped, Turn, fails, passes, refines, entry_turn, entry_fails_positive}
use Rattle.theory.proofs.Chains.Going.{Going, going_on}
use Rattle.theory.proofs.Spares.Adds.{refine_adds}
use Rattle.theory.proofs.Spares.OverSpares.{over, over_refusal, over_refine, generation_same, same_holds}
use Rattle.rules.specs.Calls.{Outcome, worked, no_room, unless, refine_refusal}
use Rattle.rules.specs.Lists.{Progress, goes_on, risen, entry_refusal, entry_work, handle}
use Rattle.rules.specs.Lists.{handle_all, refine_each}
use Rattle.rules.specs.Promises.{added}
use Rattle.rules.specs.Sound.{Sound}
use Rattle.rules.specs.Spares.{Spares, SameSizes}
use Rattle.rules.specs.Split.{Work, at_first, with_mesh, refine}
use Rattle.rules.specs.Tables.{Mesh, generation}

-- ---- one entry

-- What comes of entry t on a mesh, as of a call.
abbrev pub entry_outcome : Mesh → ℕ → Mesh → Outcome
entry_outcome start t m = unless (entry_refusal start t m) m no_room (worked (entry_work start t (at_first m)))

module _ (start : Mesh) (t : ℕ) where
  entry_adds : (w : Work) → entry_work start t w ≡ added w (entry_work start t (at_first w.mesh))
  unfolding entry_work
  entry_adds w = go (risen start t w.mesh)
    where
      go : (b : Bool)
          → ◌≡◌ {A = Work} (elim b [ true ↦ w | false ↦ refine t w ])
          (added w (elim b [ true ↦ at_first w.mesh | false ↦ refine t (at_first w.mesh) ]))
      go true = rw (add-zero w.splits, add-zero w.flips, append-nil w.report) refl
      go false = refine_adds t w

  module _ {s : Spares} {m : Mesh} (L : SameSizes s m) (S : Sound m)
      (grown : start.topology.triangles ≤ m.topology.triangles) where
    risen_over : t < start.topology.triangles → risen start t (over s m) ≡ risen start t m
    risen_over l = ap (ltb (generation start.topology t)) (generation_same (same_holds L S) S t (omega arith))

    -- The entry fails with the same.
    refusal_over : entry_refusal start t (over s m) ≡ entry_refusal start t m
    unfolding entry_refusal
    refusal_over = go (leb start.topology.triangles t) refl
      where
        go : (c : Bool) → leb start.topology.triangles t ≡ c
            → ◌≡◌ {A = ℕ}
            (elim c [
              | true ↦ 8
              | false ↦ elim (risen start t (over s m)) [ true ↦ 0 | false ↦ refine_refusal t (over s m) ]
            ])
            (elim c [ true ↦ 8 | false ↦ elim (risen start t m) [ true ↦ 0 | false ↦ refine_refusal t m ] ])
        go true e = refl
        go false e =
            ap₂ (λ (b : Bool) (n : ℕ). elim b [ true ↦ 0 | false ↦ n ]) (risen_over (leb-false _ _ e))
            (over_refusal L S t)

    -- Where it succeeds it makes the copy of what it makes of the mesh.
    work_over : entry_refusal start t m ≡ 0 →
        let u = entry_work start t (at_first m) in
        entry_work start t (at_first (over s m)) ≡ with_mesh (over s u.mesh) u
    unfolding entry_refusal entry_work
    work_over = go (leb start.topology.triangles t) refl
      where
        same : (a b : Bool) → a ≡ b → (b ≡ false → refine_refusal t m ≡ 0) →
            let u : Work = elim b [ true ↦ at_first m | false ↦ refine t (at_first m) ] in
            ◌≡◌ {A = Work} (elim a [ true ↦ at_first (over s m) | false ↦ refine t (at_first (over s m)) ])
            (with_mesh (over s u.mesh) u)
        same a true e z = rw e refl
        same a false e z = rw e (over_refine L t (z refl))

        go : (c : Bool) → leb start.topology.triangles t ≡ c
            → ◌≡◌ {A = ℕ}
            (elim c [ true ↦ 8 | false ↦ elim (risen start t m) [ true ↦ 0 | false ↦ refine_refusal t m ] ]) 0
            → let u : Work = elim (risen start t m) [ true ↦ at_first m | false ↦ refine t (at_first m) ] in
            ◌≡◌ {A = Work}
            (elim (risen start t (over s m)) [ true ↦ at_first (over s m) | false ↦ refine t (at_first (over s m)) ])
            (with_mesh (over s u.mesh) u)
        go true e z = absurd (omega arith)
        go false e z = same _ (risen start t m) (risen_over (leb-false _ _ e)) (λ q. rw q at z)

    outcome_over : (n : ℕ) → entry_refusal start t m ≡ n →
        let u = entry_work start t (at_first m) in
        entry_outcome start t (over s m) ≡ unless n (over s m) no_room (worked (with_mesh (over s u.mesh) u))
    outcome_over zero e = rw (refusal_over ∙ e, work_over e) refl
    outcome_over (suc n) e = rw (refusal_over ∙ e) refl

-- ---- the list

-- The first entries of a list are handled: k splits and f flips were made, l is the report, and the tables hold x.
pub record Doing (m : Mesh) (s : Spares) (list : List ℕ) (at k f : ℕ) (l : List ℕ) (x : Mesh) : Type 0 where
  pub work : Work
  pub held : Holding m s work k f l x
  pub result : handle_all m (drop at list) (record { work = work; handled = at; refusal = 0 }) ≡ refine_each list m

pub doing_begins : {m : Mesh} {s : Spares} (list : List ℕ) → SameSizes s m → Sound m
    → Doing m s list 0 0 0 [] (over s m)
doing_begins {m} list L S = record { work = at_first m; held = holding_begins L S; result = refl }

module _ {m : Mesh} {s : Spares} {list : List ℕ} {at k f : ℕ} {l : List ℕ} {x : Mesh}
    (D : Doing m s list at k f l x) where
  abbrev so_far : Progress
  so_far = record { work = D.work; handled = at; refusal = 0 }

  abbrev G : Going m D.work
  G = D.held.going

  pub doing_ends : at ≡ length list → Done (refine_each list m) s 0 at k f x × (l ≡ (refine_each list m).work.report)
  unfolding handle_all
  doing_ends e = holding_done D.held (sym D.result ∙ rw (e, drop-length list) refl)

  module _ (i : at < length list) where
    abbrev so_made : Work
    so_made = D.work

    abbrev entry : ℕ
    entry = get_or list at 0

    result_on :
        handle_all m (drop (suc at) list)
        (goes_on (entry_refusal m entry so_made.mesh) (entry_work m entry so_made) so_far)
        ≡ refine_each list m
    unfolding handle_all handle
    result_on = ap (λ (l : List ℕ). handle_all m l so_far) (sym (drop-cons list at 0 i)) ∙ D.result

    outcome_is : {o : Outcome} → o ≡ entry_outcome m entry x → {n : ℕ} → entry_refusal m entry so_made.mesh ≡ n →
        let u = entry_work m entry (at_first so_made.mesh) in
        o ≡ unless n (over s so_made.mesh) no_room (worked (with_mesh (over s u.mesh) u))
    outcome_is e {n} q =
        e ∙ ap (entry_outcome m entry) D.held.tables
        ∙ outcome_over m entry (holding_sizes D.held) G.sound G.still.grows n q

    going_next : entry_refusal m entry so_made.mesh ≡ 0 → Going m (entry_work m entry so_made)
    going_next z = go (entry_turn m entry so_made G.sound G.still.grows) z
      where
        go : {n : ℕ} {y : Work} → Turn m entry so_made n y → n ≡ 0 → Going m y
        go (fails F) z = absurd (entry_fails_positive F z)
        go (passes l r) z = G
        go (refines l r f F) z = going_on G F

    -- What the entry reports in the tables is what it reports in the mesh.
    report_is : entry_refusal m entry so_made.mesh ≡ 0
        → (entry_work m entry (at_first x)).report ≡ (entry_work m entry (at_first so_made.mesh)).report
    report_is q =
        ap (λ (y : Mesh). (entry_work m entry (at_first y)).report) D.held.tables
        ∙ ap (λ (w : Work). w.report)
        (work_over m entry (holding_sizes D.held) G.sound G.still.grows q)

    pub doing_on : {o : Outcome} → o ≡ entry_outcome m entry x → o.answer.refusal ≡ 0
        → Doing m s list (at + 1) (k + o.answer.splits) (f + o.answer.flips)
        (l ++ (entry_work m entry (at_first x)).report) o.mesh
    doing_on {o} e z = go (entry_refusal m entry so_made.mesh) refl
      where
        go : (n : ℕ) → entry_refusal m entry so_made.mesh ≡ n
            → Doing m s list (at + 1) (k + o.answer.splits) (f + o.answer.flips)
            (l ++ (entry_work m entry (at_first x)).report) o.mesh
        go zero q = rw (report_is q) (record {
          work = entry_work m entry so_made;
          held = holding_on D.held _ (entry_adds m entry so_made) (going_next q) (outcome_is e q);
          result = rw (add-one at) (rw q at result_on);
        })
        go (suc n) q =
            let r : o.answer.refusal ≡ suc n = ap (λ (o : Outcome). o.answer.refusal) (outcome_is e q) in
            absurd (omega arith)

    pub doing_stops : {o : Outcome} → o ≡ entry_outcome m entry x → o.answer.refusal ≢ 0
        → Done (refine_each list m) s o.answer.refusal at k f o.mesh × (l ≡ (refine_each list m).work.report)
    doing_stops {o} e n = go (entry_refusal m entry so_made.mesh) refl
      where
        go : (n : ℕ) → entry_refusal m entry so_made.mesh ≡ n
            → Done (refine_each list m) s o.answer.refusal at k f o.mesh × (l ≡ (refine_each list m).work.report)
        go zero q = absurd (n (ap (λ (o : Outcome). o.answer.refusal) (outcome_is e q)))
        go (suc j) q =
            rw (outcome_is e q, ← D.held.tables)
            (holding_done D.held
            (sym (rw q at result_on) ∙ stopped m (drop (suc at) list) _ (λ z. omega arith)))
