-- What the entries of a list fail with or make, each at its turn, and so what comes of the list.
use mathlib.Core.Path.{◌≡◌, refl, sym, ap, ◌∙◌, subst}
use mathlib.Core.Logic.{◌≢◌}
use mathlib.Core.Bool.{Bool, true, false}
use mathlib.Core.List.{List, [], ◌∷◌, ◌++◌}
use Prim.Native.Nat.{ℕ, zero, suc, ◌+◌, ◌≤◌, ◌<◌}
use native.Mathlib.Omega.{arith}
use lib.Dec.{leb}
use lib.ListN.{length, get_or}
use Rattle.theory.proofs.Calls.CallRefusals.{unused_is}
use Rattle.theory.proofs.Calls.Carried.{RefineFound, Tried, cannot, can, refine_tried, fails_once}
use Rattle.theory.proofs.Calls.Carried.{fails_positive}
use Rattle.theory.proofs.Calls.Carried.{cannot_fail}
use Rattle.theory.proofs.Chains.Going.{Going, going_begins, going_on, refine_rises}
use Rattle.theory.proofs.Numbers.Decide.{Decides, is_lt, stable}
use Rattle.theory.proofs.Splits.Bases.{reached}
use Rattle.theory.proofs.Splits.Settled.{still_all, still_on}
use Rattle.rules.specs.Conditions.{MayRefine, Risen, EntryFails, not_in_use}
use Rattle.rules.specs.Conditions.{not_refined, Handled, FailsAfter, all_done, passed_over, refined}
use Rattle.rules.specs.Calls.{refine_refusal}
use Rattle.rules.specs.Lists.{Progress, begun, goes_on, risen, entry_refusal}
use Rattle.rules.specs.Lists.{entry_work, handle_unless, handle, handle_all, refine_each}
use Rattle.rules.specs.Promises.{Still}
use Rattle.rules.specs.Sound.{Sound}
use Rattle.rules.specs.Split.{Work, refine}
use Rattle.rules.specs.Tables.{Mesh, generation}

-- ---- one entry

-- Entry t at its turn, on the work w: it fails with n, or succeeds and leaves x.
pub data Turn (start : Mesh) (t : ℕ) (w : Work) : ℕ → Work → Type 0 where
  fails : {n : ℕ} {x : Work} → EntryFails start t w.mesh n → Turn start t w n x
  passes : t < start.topology.triangles → Risen start t w.mesh → Turn start t w 0 w
  refines : t < start.topology.triangles → ¬ Risen start t w.mesh → MayRefine t w.mesh
      → RefineFound t w.mesh → Turn start t w 0 (refine t w)

module _ (start : Mesh) (t : ℕ) (w : Work) (S : Sound w.mesh)
    (grown : start.topology.triangles ≤ (reached w).triangles) where
  -- The refine of a triangle that was in use at the start and has not risen.
  refine_turn : t < start.topology.triangles → ¬ Risen start t w.mesh → {n : ℕ} → Tried t w.mesh n
      → Turn start t w n (refine t w)
  refine_turn l r (cannot F) = fails (not_refined l r F)
  refine_turn l r (can f F) = refines l r f F

  pub entry_turn : Turn start t w (entry_refusal start t w.mesh) (entry_work start t w)
  unfolding entry_refusal entry_work
  entry_turn =
      go (leb start.topology.triangles t) (unused_is t start.topology.triangles) (risen start t w.mesh)
      (is_lt (generation start.topology t) (generation (reached w) t))
    where
      go : (a : Bool) → Decides a (¬ (t < start.topology.triangles)) → (b : Bool)
          → Decides b (Risen start t w.mesh)
          → Turn start t w (elim a [ true ↦ 8 | false ↦ elim b [ true ↦ 0 | false ↦ refine_refusal t w.mesh ] ])
          (elim b [ true ↦ w | false ↦ refine t w ])
      go true d b e = fails (not_in_use (d.holds tt))
      go false d true e = passes (stable (is_lt t start.topology.triangles) d.passes) (e.holds tt)
      go false d false e =
          let l = stable (is_lt t start.topology.triangles) d.passes in
          refine_turn l e.passes (refine_tried t w.mesh S (omega arith))

-- An entry has one outcome.
entry_fails_once : {start m : Mesh} {t n k : ℕ} → EntryFails start t m n → EntryFails start t m k → n ≡ k
entry_fails_once (not_in_use n) (not_in_use k) = refl
entry_fails_once (not_in_use n) (not_refined l r F) = absurd (n l)
entry_fails_once (not_refined l r F) (not_in_use n) = absurd (n l)
entry_fails_once (not_refined l r F) (not_refined l' r' K) = fails_once F K

pub entry_fails_positive : {start m : Mesh} {t n : ℕ} → EntryFails start t m n → n ≢ 0
entry_fails_positive (not_in_use n) = λ z. omega arith
entry_fails_positive (not_refined l r F) = fails_positive F

module _ {start : Mesh} {t : ℕ} {w : Work} where
  turn_fails : {n k : ℕ} {x : Work} → Turn start t w n x → EntryFails start t w.mesh k → n ≡ k
  turn_fails (fails F) K = entry_fails_once F K
  turn_fails (passes l r) (not_in_use n) = absurd (n l)
  turn_fails (passes l r) (not_refined l' n K) = absurd (n r)
  turn_fails (refines l r f F) (not_in_use n) = absurd (n l)
  turn_fails (refines l r f F) (not_refined l' n K) = absurd (cannot_fail f K)

  -- It does not fail: it is passed over or refined.
  pub turn_passes : {n : ℕ} {x : Work} → Turn start t w n x → t < start.topology.triangles → Risen start t w.mesh
      → (n ≡ 0) × (x ≡ w)
  turn_passes (fails (not_in_use n)) l r = absurd (n l)
  turn_passes (fails (not_refined l' n F)) l r = absurd (n r)
  turn_passes (passes l' r') l r = (refl, refl)
  turn_passes (refines l' n f F) l r = absurd (n r)

  turn_refines : {n : ℕ} {x : Work} → Turn start t w n x → t < start.topology.triangles → ¬ Risen start t w.mesh
      → MayRefine t w.mesh → (n ≡ 0) × (x ≡ refine t w) × RefineFound t w.mesh
  turn_refines (fails (not_in_use n)) l r f = absurd (n l)
  turn_refines (fails (not_refined l' n F)) l r f = absurd (cannot_fail f F)
  turn_refines (passes l' r') l r f = absurd (r r')
  turn_refines (refines l' n q F) l r f = (refl, refl, F)

-- ---- the list

-- A list handled from p on ends as q: all entries succeeded, or those before the first that failed.
pub data Ends (m : Mesh) (list : List ℕ) (p q : Progress) : Type 0 where
  whole : q.refusal ≡ 0 → q.handled ≡ p.handled + length list → Handled m list p.work q.work
      → ((i : ℕ) → i < length list → Risen m (get_or list i 0) q.work.mesh) → Ends m list p q
  short : (before : List ℕ) (t : ℕ) (rest : List ℕ) → list ≡ before ++ (t ∷ rest)
      → q.handled ≡ p.handled + length before → Handled m before p.work q.work
      → EntryFails m t q.work.mesh q.refusal → Ends m list p q

pub record Fold (m : Mesh) (list : List ℕ) (p q : Progress) : Type 0 where
  pub going : Going m q.work
  pub still : Still (reached p.work) (reached q.work)
  pub ends : Ends m list p q

-- After an entry that failed, the others are not looked at.
pub stopped : (m : Mesh) (list : List ℕ) (p : Progress) → p.refusal ≢ 0 → handle_all m list p ≡ p
unfolding handle_all handle
stopped m [] p n = refl
stopped m (t ∷ rest) p n = ap (handle_all m rest) (stays p.refusal n) ∙ stopped m rest p n
  where
    stays : (k : ℕ) → k ≢ 0 → handle_unless k m t p ≡ p
    stays zero n = absurd (n refl)
    stays (suc k) n = refl

-- An entry before those that follow, which leaves x.
module _ {m : Mesh} {t : ℕ} {w x : Work}
    (first : (list : List ℕ) (y : Work) → Handled m list x y → Handled m (t ∷ list) w y) where
  ends_after : {k n : ℕ} {rest : List ℕ} {q : Progress} → Risen m t q.work.mesh
      → Ends m rest (record { work = x; handled = suc k; refusal = 0 }) q
      → Ends m (t ∷ rest) (record { work = w; handled = k; refusal = n }) q
  ends_after {rest = rest} {q} r (whole z h H R) = whole z (omega arith) (first rest q.work H) each
    where
      each : (i : ℕ) → i < length (t ∷ rest) → Risen m (get_or (t ∷ rest) i 0) q.work.mesh
      each zero l = r
      each (suc i) l = R i (omega arith)
  ends_after {q = q} r (short before y rest e h H F) =
      short (t ∷ before) y rest (ap (λ (l : List ℕ). t ∷ l) e) (omega arith) (first before q.work H) F

pub fold : (m : Mesh) (list : List ℕ) (p : Progress) → p.refusal ≡ 0 → Going m p.work
    → Fold m list p (handle_all m list p)
unfolding handle_all handle
fold m [] p z G = record {
  going = G;
  still = still_all (reached p.work);
  ends = whole z (omega arith) all_done (λ i l. absurd (omega arith));
}
fold m (t ∷ rest) p z G =
    subst (λ (n : ℕ). Fold m (t ∷ rest) p (handle_all m rest (handle_unless n m t p))) (sym z)
    (go (λ x X. fold m rest (goes_on 0 x p) refl X) (entry_turn m t p.work G.sound G.still.grows))
  where
    go : {n : ℕ} {x : Work}
        → ((x : Work) → Going m x → Fold m rest (goes_on 0 x p) (handle_all m rest (goes_on 0 x p)))
        → Turn m t p.work n x → Fold m (t ∷ rest) p (handle_all m rest (goes_on n x p))
    go f (fails {n = zero} F) = absurd (entry_fails_positive F refl)
    go f (fails {n = suc k} F) =
        rw (stopped m rest (goes_on (suc k) p.work p) (entry_fails_positive F)) (record {
          going = G;
          still = still_all (reached p.work);
          ends = short [] t rest refl (omega arith) all_done F;
        })
    go f (passes l r) =
        let I = f p.work G in
        record {
          going = I.going;
          still = I.still;
          ends =
              ends_after (λ _ _ H. passed_over l r H)
              (omega (arith, I.still.mono t (omega (arith, G.still.grows)))) I.ends;
        }
    go f (refines l r n F) =
        let I = f (refine t p.work) (going_on G F) in
        let R = refine_rises p.work F in
        let s = still_on _ _ _ R.1 I.still in
        record {
          going = I.going;
          still = s;
          ends = ends_after (λ _ _ H. refined l r n H)
              (omega (arith, G.still.mono t l, R.0, I.still.mono t (omega (arith, F.in_use, R.1.grows))))
              I.ends;
        }

-- Entries that are handled were in use at the start.
pub handled_used : {m : Mesh} {list : List ℕ} {w x : Work} → Handled m list w x → (i : ℕ) → i < length list
    → get_or list i 0 < m.topology.triangles
handled_used all_done i b = absurd (omega arith)
handled_used (passed_over l r H) zero b = l
handled_used (passed_over l r H) (suc i) b = handled_used H i (omega arith)
handled_used (refined l r f H) zero b = l
handled_used (refined l r f H) (suc i) b = handled_used H i (omega arith)

-- What is handled is computed.
pub handled_computed : {m : Mesh} {list : List ℕ} {w x : Work} (k n : ℕ) → n ≡ k + length list → Going m w
    → Handled m list w x
    → (handle_all m list (record { work = w; handled = k; refusal = 0 })
    ≡ record { work = x; handled = n; refusal = 0 })
    × Going m x
unfolding handle_all handle
handled_computed k n e G all_done = let z : k ≡ n = omega arith in (rw z refl, G)
handled_computed {m = m} {w = w} k n e G (passed_over {t} l r H) =
    let T = turn_passes (entry_turn m t w G.sound G.still.grows) l r in
    let I = handled_computed (suc k) n (omega arith) G H in
    (rw (T.0, T.1) I.0, I.1)
handled_computed {m = m} {w = w} k n e G (refined {t} l r f H) =
    let T = turn_refines (entry_turn m t w G.sound G.still.grows) l r f in
    let I = handled_computed (suc k) n (omega arith) (going_on G T.2) H in
    (rw (T.0, T.1) I.0, I.1)

-- A list in two parts: the second goes on from what the first left.
pub handled_then : (start : Mesh) (xs ys : List ℕ) (p : Progress)
    → handle_all start (xs ++ ys) p ≡ handle_all start ys (handle_all start xs p)
unfolding handle_all
handled_then start [] ys p = refl
handled_then start (t ∷ xs) ys p = handled_then start xs ys (handle start t p)

-- What a list fails with, and where, is computed.
pub fails_computed : {list : List ℕ} {m : Mesh} {k n : ℕ} {w : Work} → Sound m → FailsAfter list m k w n
    → refine_each list m ≡ record { work = w; handled = k; refusal = n }
unfolding handle_all handle
fails_computed {list} {m} {k} {n} {w} S F =
    let I = handled_computed 0 k (omega (arith, F.place)) (going_begins S) F.handled in
    let p : Progress = record { work = w; handled = k; refusal = 0 } in
    let q = turn_fails (entry_turn m F.entry w I.1.sound I.1.still.grows) F.fails in
    ap (λ (l : List ℕ). handle_all m l (begun m)) F.parts
    ∙ handled_then m F.before (F.entry ∷ F.rest) (begun m)
    ∙ ap (λ (q : Progress). handle_all m F.rest (handle m F.entry q)) I.0
    ∙ ap (λ (j : ℕ). handle_all m F.rest (goes_on j (entry_work m F.entry w) p)) q
    ∙ go n (entry_fails_positive F.fails)
  where
    go : (j : ℕ) → j ≢ 0 →
        let p : Progress = record { work = w; handled = k; refusal = 0 } in
        handle_all m F.rest (goes_on j (entry_work m F.entry w) p) ≡ record { work = w; handled = k; refusal = j }
    go zero z = absurd (z refl)
    go (suc j) z = stopped m F.rest (record { work = w; handled = k; refusal = suc j }) z
