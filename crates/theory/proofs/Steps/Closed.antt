-- The whole step in closed form: each old side has one child, which the corners and links of its own triangle decide.
use mathlib.Core.Path.{◌≡◌, refl, sym, ap, ◌∙◌, subst}
use mathlib.Core.Logic.{inl, inr}
use mathlib.Core.List.{List, [], ◌∷◌}
use Prim.Native.Nat.{ℕ, zero, suc, ◌+◌, ◌-◌, ◌*◌, ◌/◌, ◌%◌, ◌≤◌, ◌<◌}
use native.Mathlib.Omega.{arith}
use native.Mathlib.Decide.{dec_lt}
use lib.IntN.{ℤ, pos}
use lib.ListN.{get_or}
use Rattle.theory.proofs.Calls.Carried.{StepFound}
use Rattle.theory.proofs.Links.Manifold.{Manifold, Partnered, partnered, no_self}
use Rattle.theory.proofs.Links.Rows.{put_rows, rows_else, rows_same}
use Rattle.theory.proofs.Links.Sides.{Row, previous_lt}
use Rattle.theory.proofs.Numbers.Decide.{two_even}
use Rattle.theory.proofs.Numbers.Fill.{fill_is}
use Rattle.theory.proofs.Soundness.Relaxed.{sound_manifold, sound_bases}
use Rattle.theory.proofs.Splits.Bases.{Settling, reached}
use Rattle.theory.proofs.Splits.Settled.{Settled, done, then}
use Rattle.theory.proofs.Splits.Splitting.{face_positions, face_locks, face_parted, face_settled}
use Rattle.theory.proofs.Steps.Children.{Mates, child_of, later, slot_is, slot_lt, slot_apart, slot₀, slot₁}
use Rattle.theory.proofs.Steps.Children.{slot₂}
use Rattle.theory.proofs.Steps.Children.{name_waits, inward_flipped}
use Rattle.theory.proofs.Steps.Stage.{Stage, settle_stage}
use Rattle.theory.proofs.Steps.StageSplit.{split_stage}
use Rattle.theory.proofs.Steps.StepTopology.{Midway, centre_stays, room_at}
use Rattle.theory.proofs.Steps.WholeStep.{midway, next_split, all_up, room, slots, closed_none_odd, none_odd}
use Rattle.rules.specs.Below.{fill}
use Rattle.rules.specs.Conditions.{ClosedEven}
use Rattle.rules.specs.Promises.{odds}
use Rattle.rules.specs.Split.{Work, at_first, centre, face_cut, face_split, new_unlocked}
use Rattle.rules.specs.Step.{refine_first}
use Rattle.rules.specs.Tables.{Topology, Mesh, topology_of, mesh_of, sides, origin, link, generation, next}
use Rattle.rules.specs.Tables.{previous}

-- ---- the form

-- The child at old side h, after its flip: from the origin of h to the centre across it and to the centre of its own
-- triangle.
abbrev pub child_corners : Topology → ℕ → ℕ × ℕ × ℕ
child_corners d h = (origin d h, d.vertices + link d h / 3, d.vertices + h / 3)

abbrev pub child_links : Topology → ℕ → ℕ × ℕ × ℕ
child_links d h = (
  3 * child_of d (next (link d h)) + 2,
  3 * child_of d (link d h) + 1,
  3 * child_of d (link d (previous h)),
)

-- The positions with the centres of the first n old triangles as new vertices.
unfoldable pub with_centres : ℕ → Mesh → List ℤ
with_centres n m =
    put_rows n (λ t. m.topology.vertices + t) (λ t. (centre m t 0, centre m t 1, centre m t 2)) m.positions

-- The locks with those of the new slots of the first n old triangles clear, where there are f.
unfoldable pub unlocked_new : ℕ → ℕ → List ℕ → List ℕ
unlocked_new zero f l = l
unlocked_new (suc n) f l = new_unlocked (f + 2 * n) (unlocked_new n f l)

-- All children in their slots, two generations up, and the centres at the old positions.
unfoldable pub closed_step : Mesh → Mesh
closed_step m =
    let d = m.topology in
    mesh_of (topology_of (d.vertices + d.triangles) (3 * d.triangles)
    (put_rows (sides d) (child_of d) (child_corners d) d.corners)
    (put_rows (sides d) (child_of d) (child_links d) d.links)
    (fill (3 * d.triangles) (λ _. generation d 0 + 2) d.generations))
    (with_centres d.triangles m) (unlocked_new d.triangles d.triangles m.locks) m.rule

-- The old vertices stand where they stood.
pub centres_leave : (n : ℕ) (m : Mesh) (i : ℕ) → i < 3 * m.topology.vertices
    → get_or (with_centres n m) i (pos 0) ≡ get_or m.positions i (pos 0)
unfolding with_centres
centres_leave n m i l = rows_else (pos 0) _ _ m.positions n i (λ h j q. omega arith)

-- ---- one triangle more

settle_three : (g i : ℕ) (d e k₁ k₂ k₃ : Topology) → Mates d → Stage g (suc i) (3 * i) d e → g % 2 ≡ 0
    → suc i ≤ d.triangles → Settling (child_of d (3 * i)) e k₁ → Settling (child_of d (3 * i + 1)) k₁ k₂
    → Settling (child_of d (3 * i + 2)) k₂ k₃ → Stage g (suc i) (3 * suc i) d k₃
settle_three g i d e k₁ k₂ k₃ M I even few o₁ o₂ o₃ =
    let I₁ : Stage g (suc i) (3 * i + 1) d k₁ =
    subst (λ (n : ℕ). Stage g (suc i) n d k₁) (omega arith)
    (settle_stage g (suc i) (3 * i) d e M I even few (omega arith) k₁ o₁) in
    let I₂ : Stage g (suc i) (3 * i + 2) d k₂ =
    subst (λ (n : ℕ). Stage g (suc i) n d k₂) (omega arith)
    (settle_stage g (suc i) (3 * i + 1) d k₁ M I₁ even few (omega arith) k₂ o₂) in
    subst (λ (n : ℕ). Stage g (suc i) n d k₃) (omega arith)
    (settle_stage g (suc i) (3 * i + 2) d k₂ M I₂ even few (omega arith) k₃ o₃)

three_settled : (g i : ℕ) (d e n : Topology) → Mates d → Stage g (suc i) (3 * i) d e → g % 2 ≡ 0
    → suc i ≤ d.triangles
    → (a b c : ℕ) → a ≡ child_of d (3 * i) → b ≡ child_of d (3 * i + 1) → c ≡ child_of d (3 * i + 2)
    → Settled (a ∷ b ∷ c ∷ []) e n → Stage g (suc i) (3 * suc i) d n
three_settled g i d e n M I even few a b c ea eb ec (then {k = k₁} o₁ (then {k = k₂} o₂ (then {k = k₃} o₃ done))) =
    settle_three g i d e k₁ k₂ k₃ M I even few (subst (λ (x : ℕ). Settling x e k₁) ea o₁)
    (subst (λ (x : ℕ). Settling x k₁ k₂) eb o₂) (subst (λ (x : ℕ). Settling x k₂ k₃) ec o₃)

begins : (g : ℕ) (d : Topology) → ((t : ℕ) → t < d.triangles → generation d t ≡ g) → Stage g 0 0 d d
begins g d G = record {
  triangles = omega arith;
  waiting = λ t j l. G t l;
  risen = λ h l j q. absurd (omega arith);
  base = λ h l q.
      ap (λ (k : ℕ). link d k) (name_waits d 0 h (omega arith)) ∙ sym (name_waits d 0 (link d h) (omega arith));
  first = λ h l j. absurd (omega arith);
  second = λ h l j q. absurd (omega arith);
  third = λ h l j. absurd (omega arith);
  outward = λ h l j. absurd (omega arith);
  inwards = λ h l j. absurd (omega arith);
  across = λ h l j q. absurd (omega arith);
}

mates_of : (d : Topology) → Manifold d → ClosedEven d → Mates d
mates_of d F C = record {
  in_use = λ h l. (partner h l).in_use;
  back = λ h l. (partner h l).back;
  other = λ h l. no_self d h F l (partner h l);
}
  where
    partner : (h : ℕ) → h < sides d → Partnered d h
    partner h l = partnered (F.linked h l) (C.closed h l)

-- ---- all triangles

module _ (m : Mesh) (R : StepFound m) where
  abbrev d : Topology
  d = m.topology

  abbrev g : ℕ
  g = R.closed.common

  abbrev at : ℕ → Work
  at i = refine_first i (at_first m)

  pub mates : Mates d
  mates = mates_of d (sound_manifold R.sound) R.closed

  under_way : (i : ℕ) → i ≤ d.triangles → Midway g i (at_first m) (at i)
  under_way = midway m R.sound R.closed R.room

  stage_on : (i : ℕ) (e : Work) → i < d.triangles → Midway g i (at_first m) e → Stage g i (3 * i) d (reached e)
      → Stage g (suc i) (3 * suc i) d (reached (face_split i e))
  stage_on i e l W I =
      let b : i < (reached e).triangles = omega (arith, W.triangles) in
      let r =
      room_at g R.closed.even (at_first m) (sound_manifold R.sound) (sound_bases R.sound) R.closed.all
      (room m R.sound R.closed R.room) (slots m R.sound R.closed R.room) i e l W in
      let even : generation (reached e) i % 2 ≡ 0 =
      ap (λ (x : ℕ). x % 2) (W.waiting i (omega arith) l) ∙ R.closed.even in
      let old : (h : ℕ) → h / 3 ≡ i → origin (reached e) h ≡ origin d h =
      λ h q. W.waiting_corners h (omega arith) (omega arith) in
      let J =
      split_stage g i d (reached e) (face_cut i (reached e)) mates I l old W.vertices
      (face_parted i e W.manifold b r) in
      three_settled g i d (face_cut i (reached e)) (reached (face_split i e)) mates J R.closed.even (omega arith) i
      (reached e).triangles ((reached e).triangles + 1)
      (sym (slot₀ d.triangles i)) (W.triangles ∙ sym (slot₁ d.triangles i))
      (ap (λ (x : ℕ). x + 1) W.triangles ∙ sym (slot₂ d.triangles i))
      (face_settled i e W.manifold b r even)

  stages : (i : ℕ) → i ≤ d.triangles → Stage g i (3 * i) d (reached (at i))
  unfolding refine_first
  stages zero l = begins g d R.closed.all
  stages (suc i) l =
      subst (λ (w : Work). Stage g (suc i) (3 * suc i) d (reached w))
      (sym (next_split m R.sound R.closed R.room i l))
      (stage_on i (at i) l (under_way i (omega arith)) (stages i (omega arith)))

  -- ---- the end

  abbrev e : Topology
  e = reached (at d.triangles)

  I : Stage g d.triangles (sides d) d e
  I = stages d.triangles (omega arith)

  W : Midway g d.triangles (at_first m) (at d.triangles)
  W = under_way d.triangles (omega arith)

  up : (t : ℕ) → t < 3 * d.triangles → generation e t ≡ suc (suc g)
  up t l = all_up m R.sound R.closed R.room t (omega (arith, W.triangles))

  both_in : (h : ℕ) → h < sides d → later d h < sides d
  both_in h l = let k = mates.in_use h l in omega arith

  -- The child at each old side.
  child_corners_lem : (h : ℕ) → h < sides d
      → Row e.corners 0 (child_of d h) (origin d h) (d.vertices + link d h / 3) (d.vertices + h / 3)
  child_corners_lem h l =
      (I.first h l (omega arith), I.second h l (omega arith) (both_in h l), I.third h l (omega arith))

  child_links_lem : (h : ℕ) → h < sides d
      → Row e.links 0 (child_of d h) (3 * child_of d (next (link d h)) + 2) (3 * child_of d (link d h) + 1)
      (3 * child_of d (link d (previous h)))
  child_links_lem h l =
      let k : link d h < sides d = mates.in_use h l in
      let p : previous h < sides d = previous_lt h d.triangles l in (
        ap (λ (x : ℕ). link e x)
            (sym (inward_flipped d (sides d) (link d h) (both_in (link d h) k)
            ∙ ap (λ (x : ℕ). 3 * child_of d x) (mates.back h l)))
            ∙ I.inwards (link d h) k (omega arith),
        I.across h l (omega arith) (both_in h l),
        I.outward h l (omega arith) ∙ inward_flipped d (sides d) (previous h) (both_in (previous h) p),
      )

  below : (h : ℕ) → h < sides d → child_of d h < 3 * d.triangles
  below h l = omega (arith, slot_lt d h d.triangles l (omega arith))

  -- Every slot has a child.
  onto : (x : ℕ) → x < 3 * d.triangles → (h : ℕ) × (h < sides d) × (child_of d h ≡ x)
  onto x l = elim (dec_lt x d.triangles) [
    | yes q ↦ (3 * x, omega arith, slot₀ d.triangles x)
    | no q ↦
        let y : ℕ = x - d.triangles in
        let h : ℕ = 3 * (y / 2) + y % 2 + 1 in
        (h, omega arith, elim (slot_is d h) [ inl (a, b) ↦ omega arith | inr (a, b) ↦ omega arith ])
  ]

  corners_closed : e.corners ≡ put_rows (sides d) (child_of d) (child_corners d) d.corners
  corners_closed =
      rows_same 0 (child_of d) (child_corners d) d.corners (sides d) (slot_apart d)
      (λ h l. omega (arith, below h l, (room m R.sound R.closed R.room).corners)) e.corners
      (3 * d.triangles) W.corners (W.past (3 * d.triangles) (omega (arith, W.triangles))).corners child_corners_lem
      below onto

  links_closed : e.links ≡ put_rows (sides d) (child_of d) (child_links d) d.links
  links_closed =
      rows_same 0 (child_of d) (child_links d) d.links (sides d) (slot_apart d)
      (λ h l. omega (arith, below h l, (room m R.sound R.closed R.room).links)) e.links
      (3 * d.triangles) W.links (W.past (3 * d.triangles) (omega (arith, W.triangles))).links child_links_lem below
      onto

  generations_closed : e.generations ≡ fill (3 * d.triangles) (λ _. generation d 0 + 2) d.generations
  generations_closed =
      fill_is 0 (3 * d.triangles) (λ _. generation d 0 + 2) d.generations e.generations W.generations
      (omega (arith, (room m R.sound R.closed R.room).generations))
      (W.past (3 * d.triangles) (omega (arith, W.triangles))).generations
      (λ t l. up t l ∙ omega (arith, R.closed.all 0 R.sound.some_triangle))

  centred : (i : ℕ) → i ≤ d.triangles → (at i).mesh.positions ≡ with_centres i m
  unfolding refine_first with_centres put_rows
  centred zero l = refl
  centred (suc i) l =
      let N = under_way i (omega arith) in
      let c : (k : ℕ) → k < 3 → centre (at i).mesh i k ≡ centre m i k = λ k j.
      centre_stays g R.closed.even (at_first m) (sound_manifold R.sound) (sound_bases R.sound)
      R.closed.all (room m R.sound R.closed R.room) (slots m R.sound R.closed R.room) i k (at i) l
      j N in
      ap (λ (w : Work). w.mesh.positions) (next_split m R.sound R.closed R.room i l)
      ∙ face_positions i (at i)
      ∙ rw (N.vertices, c 0 (omega arith), c 1 (omega arith), c 2 (omega arith), centred i (omega arith), put_rows) refl

  unlocked : (i : ℕ) → i ≤ d.triangles → (at i).mesh.locks ≡ unlocked_new i d.triangles m.locks
  unfolding refine_first unlocked_new
  unlocked zero l = refl
  unlocked (suc i) l =
      ap (λ (w : Work). w.mesh.locks) (next_split m R.sound R.closed R.room i l)
      ∙ face_locks i (at i)
      ∙ rw ((under_way i (omega arith)).triangles, unlocked i (omega arith)) refl

  -- Refining all old triangles in order is the closed form, with as many splits and half as many flips as sides.
  pub step_closed : at d.triangles
      ≡ record {
        mesh = closed_step m;
        splits = d.triangles;
        flips = 3 * d.triangles / 2;
        report = (at d.triangles).report;
      }
  unfolding closed_step
  step_closed =
      let o : odds e ≡ 0 = none_odd e (λ t l. two_even (up t (omega (arith, W.triangles))) R.closed.even) in
      let o' : odds d ≡ 0 = closed_none_odd R.closed in
      work_same (at d.triangles) W.vertices (omega (arith, W.triangles)) corners_closed links_closed
      generations_closed (centred d.triangles (omega arith)) (unlocked d.triangles (omega arith))
      W.places.rule (omega (arith, W.splits)) (omega (arith, W.odd))
    where
      work_same : (w : Work) {v f : ℕ} {c l g k : List ℕ} {p : List ℤ} {r s t : ℕ} → (reached w).vertices ≡ v
          → (reached w).triangles ≡ f → (reached w).corners ≡ c → (reached w).links ≡ l → (reached w).generations ≡ g
          → w.mesh.positions ≡ p → w.mesh.locks ≡ k → w.mesh.rule ≡ r → w.splits ≡ s → w.flips ≡ t
          → ◌≡◌ {A = Work} w (record {
            mesh = mesh_of (topology_of v f c l g) p k r;
            splits = s;
            flips = t;
            report = w.report;
          })
      work_same w ev ef ec el eg ep ek er es et =
          rw (sym ev, sym ef, sym ec, sym el, sym eg, sym ep, sym ek, sym er, sym es, sym et) refl
