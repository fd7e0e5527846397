-- A box worked in spare tables, turn by turn: they hold the copy of what it makes of the mesh.
use mathlib.Core.Path.{◌≡◌, refl, sym, ap, ◌∙◌, subst}
use mathlib.Core.List.{List, [], ◌++◌}
use mathlib.Core.Logic.{◌≢◌}
use Prim.Native.Nat.{ℕ, zero, suc, ◌+◌, ◌*◌, ◌≤◌, ◌<◌}
use native.Mathlib.Numerals.{add-one}
use native.Mathlib.Omega.{arith}
use lib.Dec.{T}
use Rattle.theory.proofs.Boxes.TurnByTurn.{turn_made, turn_failed, none_made, refine_splits}
use Rattle.theory.proofs.Boxes.Wanting.{wanted_is, wanted_alike}
use Rattle.theory.proofs.Calls.Carried.{refine_found}
use Rattle.theory.proofs.Chains.Going.{Going, going_on}
use Rattle.theory.proofs.Lists.Holding.{Holding, holding_begins, holding_sizes, holding_few, Done}
use Rattle.theory.proofs.Lists.Holding.{holding_done, holding_on}
use Rattle.theory.proofs.Spares.Adds.{refine_adds}
use Rattle.theory.proofs.Spares.OverSpares.{over, over_refusal, over_refine, generation_same, corner_same}
use Rattle.theory.proofs.Spares.OverSpares.{coordinate_same, same_holds}
use Rattle.theory.proofs.Splits.Bases.{reached}
use Rattle.rules.specs.Boxes.{Box, wanted, refine_wanted, refine_in_box}
use Rattle.rules.specs.Calls.{Outcome, worked, no_room, unless, refine_refusal, refine_call}
use Rattle.rules.specs.Conditions.{Wanted, LowestWanted}
use Rattle.rules.specs.Lists.{Progress}
use Rattle.rules.specs.Sound.{Sound}
use Rattle.rules.specs.Spares.{Spares, SameSizes}
use Rattle.rules.specs.Split.{Work, at_first, with_mesh, refine}
use Rattle.rules.specs.Tables.{Mesh, triangle_slots}

-- ---- in the copy

module _ {s : Spares} {m : Mesh} (L : SameSizes s m) (S : Sound m) where
  -- The same triangles are wanted.
  pub wanted_over : (b : Box) (t : ℕ) → t < m.topology.triangles → wanted b (over s m) t ≡ wanted b m t
  wanted_over b t l = wanted_alike b {t = t} (record {
    generation = generation_same (same_holds L S) S t l;
    corners = λ i j. corner_same (same_holds L S) S (3 * t + i) (omega arith);
    places = λ i k j d. coordinate_same (same_holds L S) S _ k (S.corner (3 * t + i) (omega arith)) d;
  })

  lowest_over : {b : Box} {t : ℕ} → LowestWanted b (over s m) t → LowestWanted b m t
  lowest_over {b} {t} N = record {
    in_use = N.in_use;
    wanted = back t N.in_use N.wanted;
    lowest = λ u i W. N.lowest u i (there u (omega (arith, N.in_use)) W);
  }
    where
      back : (u : ℕ) → u < m.topology.triangles → Wanted b (over s m) u → Wanted b m u
      back u l W = (wanted_is b m u).holds (subst T (wanted_over b u l) ((wanted_is b (over s m) u).passes W))

      there : (u : ℕ) → u < m.topology.triangles → Wanted b m u → Wanted b (over s m) u
      there u l W = (wanted_is b (over s m) u).holds (subst T (sym (wanted_over b u l)) ((wanted_is b m u).passes W))

  refine_over : (t : ℕ) {n : ℕ} → refine_refusal t m ≡ n →
      let u = refine t (at_first m) in
      refine_call t (over s m) ≡ unless n (over s m) no_room (worked (with_mesh (over s u.mesh) u))
  unfolding refine_call
  refine_over t {n = zero} e = rw (over_refusal L S t ∙ e, over_refine L t e) refl
  refine_over t {n = suc n} e = rw (over_refusal L S t ∙ e) refl

-- ---- the turns

-- So many turns were made, with k splits, f flips and the report l, and the tables hold x.
pub record Boxing (b : Box) (m : Mesh) (s : Spares) (at k f : ℕ) (l : List ℕ) (x : Mesh) : Type 0 where
  pub work : Work
  pub held : Holding m s work k f l x
  pub few : at ≤ work.splits
  pub left : ℕ
  pub enough : triangle_slots m < left + (reached work).triangles
  pub result : refine_wanted left b (record { work = work; handled = at; refusal = 0 }) ≡ refine_in_box b m

pub boxing_begins : {m : Mesh} {s : Spares} (b : Box) → SameSizes s m → Sound m → Boxing b m s 0 0 0 [] (over s m)
boxing_begins {m} b L S = record {
  work = at_first m;
  held = holding_begins L S;
  few = omega arith;
  left = triangle_slots m;
  enough = omega (arith, S.some_triangle);
  result = refl;
}

module _ {b : Box} {m : Mesh} {s : Spares} {at k f : ℕ} {l : List ℕ} {x : Mesh} (D : Boxing b m s at k f l x) where
  abbrev so_far : Progress
  so_far = record { work = D.work; handled = at; refusal = 0 }

  abbrev G : Going m D.work
  G = D.held.going

  abbrev L : SameSizes s D.work.mesh
  L = holding_sizes D.held

  -- A turn makes a split at least.
  pub boxing_few : at ≤ 32768
  boxing_few = omega (arith, (holding_few D.held).0, D.held.splits, D.few)

  pub boxing_ends : ((t : ℕ) → t < x.topology.triangles → ¬ Wanted b x t)
      → Done (refine_in_box b m) s 0 at k f x × (l ≡ (refine_in_box b m).work.report)
  boxing_ends nothing =
      holding_done D.held (sym D.result ∙ none_made b D.left so_far (λ t l W.
      let e = ap (λ (y : Mesh). wanted b y t) D.held.tables ∙ wanted_over L G.sound b t l in
      let i : t < x.topology.triangles =
      subst (λ (n : ℕ). t < n) (sym (ap (λ (y : Mesh). y.topology.triangles) D.held.tables)) l in
      nothing t i ((wanted_is b x t).holds (subst T (sym e) ((wanted_is b D.work.mesh t).passes W)))))

  module _ {t : ℕ} (N : LowestWanted b x t) where
    next : LowestWanted b D.work.mesh t
    next = lowest_over L G.sound (subst (λ (y : Mesh). LowestWanted b y t) D.held.tables N)

    outcome_is : {o : Outcome} → o ≡ refine_call t x → {n : ℕ} → refine_refusal t D.work.mesh ≡ n →
        let u = refine t (at_first D.work.mesh) in
        o ≡ unless n (over s D.work.mesh) no_room (worked (with_mesh (over s u.mesh) u))
    outcome_is e q = e ∙ ap (refine_call t) D.held.tables ∙ refine_over L G.sound t q

    -- What the turn reports in the tables is what it reports in the mesh.
    report_is : refine_refusal t D.work.mesh ≡ 0
        → (refine t (at_first x)).report ≡ (refine t (at_first D.work.mesh)).report
    report_is q =
        ap (λ (y : Mesh). (refine t (at_first y)).report) D.held.tables
        ∙ ap (λ (w : Work). w.report) (over_refine L t q)

    pub boxing_on : {o : Outcome} → o ≡ refine_call t x → o.answer.refusal ≡ 0
        → Boxing b m s (at + 1) (k + o.answer.splits) (f + o.answer.flips) (l ++ (refine t (at_first x)).report)
        o.mesh
    boxing_on {o} e z = go (refine_refusal t D.work.mesh) refl D.left D.enough D.result
      where
        go : (n : ℕ) → refine_refusal t D.work.mesh ≡ n
            → (j : ℕ) → triangle_slots m < j + (reached D.work).triangles
            → refine_wanted j b so_far ≡ refine_in_box b m
            → Boxing b m s (at + 1) (k + o.answer.splits) (f + o.answer.flips)
            (l ++ (refine t (at_first x)).report) o.mesh
        go zero q zero i r = absurd (omega (arith, G.sound.triangle_room, G.room.generations))
        go zero q (suc j) i r =
            let F = refine_found t D.work.mesh q in
            let H = going_on G F in
            rw (report_is q) (record {
              work = refine t D.work;
              held = holding_on D.held _ (refine_adds t D.work) H (outcome_is e q);
              few = omega (arith, D.few, refine_splits D.work F);
              left = j;
              enough = omega (arith, G.triangles, H.triangles, refine_splits D.work F);
              result = rw (add-one at) (sym (turn_made j so_far next q) ∙ r);
            })
        go (suc n) q j i r =
            let y : o.answer.refusal ≡ suc n = ap (λ (o : Outcome). o.answer.refusal) (outcome_is e q) in
            absurd (omega arith)

    pub boxing_stops : {o : Outcome} → o ≡ refine_call t x → o.answer.refusal ≢ 0
        → Done (refine_in_box b m) s o.answer.refusal at k f o.mesh × (l ≡ (refine_in_box b m).work.report)
    boxing_stops {o} e n = go (refine_refusal t D.work.mesh) refl D.left D.enough D.result
      where
        go : (r : ℕ) → refine_refusal t D.work.mesh ≡ r
            → (j : ℕ) → triangle_slots m < j + (reached D.work).triangles
            → refine_wanted j b so_far ≡ refine_in_box b m
            → Done (refine_in_box b m) s o.answer.refusal at k f o.mesh × (l ≡ (refine_in_box b m).work.report)
        go zero q j i r = absurd (n (ap (λ (o : Outcome). o.answer.refusal) (outcome_is e q)))
        go (suc y) q zero i r = absurd (omega (arith, G.sound.triangle_room, G.room.generations))
        go (suc y) q (suc j) i r =
            rw (outcome_is e q, ← D.held.tables)
            (holding_done D.held (sym r ∙ turn_failed j so_far next q))
