-- A note is accepted just if it fits and stands its trial, which reads no slot past those in use.
use mathlib.Core.Bool.{Bool, ◌&&◌}
use mathlib.Core.List.{List}
use mathlib.Core.Path.{◌≡◌, refl, sym, ap, subst, ◌∙◌}
use Prim.Native.Nat.{ℕ, ◌*◌, ◌≤◌}
use native.Mathlib.Omega.{arith}
use lib.Dec.{T, eqb}
use lib.IntN.{ℤ, pos}
use lib.ListN.{get_or}
use lib.Seq.{get_or-take}
use Rattle.theory.proofs.Calls.Carried.{refine_found, found_refined}
use Rattle.theory.proofs.Loads.Alike.{all_same}
use Rattle.theory.proofs.Notes.Restoring.{all_sizes}
use Rattle.theory.proofs.Notes.Tests.{accepted_is, same_in_use_is}
use Rattle.theory.proofs.Numbers.Decide.{Decides, is_self, is_eq, is_le, is_iff, is_and, is_same}
use Rattle.theory.proofs.Soundness.Relaxed.{SameSlots, agree_on}
use Rattle.theory.proofs.Soundness.SoundTest.{sound_is}
use Rattle.rules.specs.Calls.{refine_refusal}
use Rattle.rules.specs.Notes.{refined, noted_triangle, old_v, old_f, note_slots, restored, same_number}
use Rattle.rules.specs.Notes.{same_in_use, Accepted, accepted}
use Rattle.rules.specs.Sound.{Sound}
use Rattle.rules.specs.Split.{Work}
use Rattle.rules.specs.Tables.{Mesh, sides, origin, link, generation, lock}
use Rattle.restoring.specs.Fitting.{note_fits, NoteFits}
use Rattle.undoing.specs.Trying.{cut, refines_to, accepted_cut}
use Rattle.restoring.proofs.NoteTests.{note_fits_is, accepted_fits}
use Rattle.undoing.proofs.Shorter.{Fits, FitsRefined, cut_sound, whole_sound, cut_refusal_same, cut_carried_out}
use Rattle.undoing.proofs.Shorter.{cut_refine}

-- ---- what restoring keeps

restored_slots : (note : List ℕ) (m : Mesh) → SameSlots m (restored note m)
unfolding restored
restored_slots note m =
    let L = all_sizes note m (note_slots note) in
    record {
      positions = L.positions;
      corners = L.corners;
      links = L.links;
      generations = L.generations;
      locks = L.locks;
    }

restored_counts : (note : List ℕ) (m : Mesh) →
    let t = (restored note m).topology in
    (t.vertices ≡ old_v note) × (t.triangles ≡ old_f note)
unfolding restored
restored_counts note m = (refl, refl)

-- A comparison with m reads no slot past those that m has in use.
same_in_use_cut : (m n : Mesh) → same_in_use m (cut m.topology.vertices m.topology.triangles n) ≡ same_in_use m n
unfolding same_in_use
same_in_use_cut m n =
    let t = m.topology in
    let u = n.topology in
    let counts : Bool =
    eqb u.vertices t.vertices && eqb u.triangles t.triangles && eqb n.rule m.rule in
    λ i.
    counts
    && all_same (sides t) _ _
    (λ h l. ap (λ (x : ℕ). eqb x (origin t h)) (get_or-take (sides t) u.corners h 0 l)) i
    && all_same (sides t) _ _
    (λ h l. ap (λ (x : ℕ). eqb x (link t h)) (get_or-take (sides t) u.links h 0 l)) i
    && all_same t.triangles _ _
    (λ x l. ap (λ (g : ℕ). eqb g (generation t x)) (get_or-take t.triangles u.generations x 0 l)) i
    && all_same t.triangles _ _
    (λ x l. ap (λ (k : ℕ). eqb k (lock m x)) (get_or-take t.triangles n.locks x 0 l)) i
    && all_same (3 * t.vertices) _ _
    (λ j l.
    ap (λ (z : ℤ). same_number z (get_or m.positions j (pos 0)))
    (get_or-take (3 * t.vertices) n.positions j (pos 0) l)) i

-- ---- from an old mesh to the present one

module _ (note : List ℕ) (m : Mesh) where
  -- From an old mesh refining the noted triangle leads to m.
  abbrev Leads : Mesh → Type 0
  Leads old = (Sound old × (refine_refusal (noted_triangle note) old ≡ 0))
      × T (same_in_use m (refined (noted_triangle note) old))

  -- The restored mesh in the slots that m has in use.
  abbrev here : Mesh
  here = cut m.topology.vertices m.topology.triangles (restored note m)

  accepted_cut_is : Decides (accepted_cut note m)
      (((old_v note ≤ m.topology.vertices) × (old_f note ≤ m.topology.triangles)) × Leads here)
  unfolding accepted_cut refines_to
  accepted_cut_is =
      is_and
      (is_and (is_le (old_v note) m.topology.vertices) (is_le (old_f note) m.topology.triangles))
      (is_and (is_and (sound_is here) (is_eq (refine_refusal (noted_triangle note) here) 0))
      (is_self (same_in_use m (refined (noted_triangle note) here))))

  -- The refine makes no more than the present mesh has, and never lowers the counts.
  leads_fits : Leads (restored note m)
      → FitsRefined m.topology.vertices m.topology.triangles (noted_triangle note) (restored note m)
  leads_fits ((S, z), e) =
      let X = found_refined (refine_found (noted_triangle note) _ z) in
      let c = (same_in_use_is m _).holds e in
      record { vertices = omega (arith, X.vertices, c.vertices); triangles = omega (arith, X.triangles, c.triangles) }

  leads_counts : Leads (restored note m)
      → (old_v note ≤ m.topology.vertices) × (old_f note ≤ m.topology.triangles)
  leads_counts B =
      let F = leads_fits B in
      let q = restored_counts note m in
      (omega (arith, F.vertices, q.0), omega (arith, F.triangles, q.1))

  accepted_leads : Accepted note m → Leads (restored note m)
  accepted_leads A = ((A.sound, A.carried_out), (same_in_use_is m _).passes A.present)

  -- The counts of an accepted note are not above the present ones.
  pub accepted_counts : Accepted note m → (old_v note ≤ m.topology.vertices) × (old_f note ≤ m.topology.triangles)
  accepted_counts A = leads_counts (accepted_leads A)

  restored_fits : Sound m → old_v note ≤ m.topology.vertices → old_f note ≤ m.topology.triangles
      → Fits m.topology.vertices m.topology.triangles (restored note m)
  restored_fits S i j =
      let L = restored_slots note m in
      let c = restored_counts note m in
      record {
        tables = agree_on S.tables L;
        vertex_slots = omega (arith, L.positions, S.vertex_room);
        triangle_slots = omega (arith, L.generations, S.triangle_room);
        vertices = omega (arith, c.0);
        triangles = omega (arith, c.1);
      }

  module _ (W : Fits m.topology.vertices m.topology.triangles (restored note m)) where
    -- What the refine makes compares the same.
    compared_here : refine_refusal (noted_triangle note) (restored note m) ≡ 0
        → FitsRefined m.topology.vertices m.topology.triangles (noted_triangle note) (restored note m)
        → same_in_use m (refined (noted_triangle note) here) ≡ same_in_use m (refined (noted_triangle note) (restored note m))
    compared_here z F =
        ap (λ (w : Work). same_in_use m w.mesh) (cut_refine W (refine_found _ _ z) F)
        ∙ same_in_use_cut m (refined (noted_triangle note) (restored note m))

    leads_here : Leads (restored note m) → Leads here
    leads_here B =
        let ((S, z), e) = B in
        let F = leads_fits B in
        ((cut_sound W S, cut_refusal_same W (noted_triangle note) S F ∙ z), subst T (sym (compared_here z F)) e)

    leads_whole : Leads here → Leads (restored note m)
    leads_whole ((S, z), e) =
        let S' = whole_sound W S in
        let (z', F) = cut_carried_out W (noted_triangle note) S' z in
        ((S', z'), subst T (compared_here z' F) e)

  pub accepted_tried : Sound m → accepted note m ≡ (note_fits note && accepted_cut note m)
  accepted_tried S = is_same (accepted_is note m) (is_iff accepts tries (is_and (note_fits_is note) accepted_cut_is))
    where
      accepts : NoteFits note
          × (((old_v note ≤ m.topology.vertices) × (old_f note ≤ m.topology.triangles)) × Leads here)
          → Accepted note m
      accepts (N, ((i, j), B)) =
          let ((R, z), e) = leads_whole (restored_fits S i j) B in
          record {
            long = N.long;
            rising = N.rising;
            in_use = N.in_use;
            sound = R;
            carried_out = z;
            present = (same_in_use_is m _).holds e;
          }

      tries : Accepted note m
          → NoteFits note
          × (((old_v note ≤ m.topology.vertices) × (old_f note ≤ m.topology.triangles)) × Leads here)
      tries A =
          let (i, j) = accepted_counts A in
          (accepted_fits note m A, ((i, j), leads_here (restored_fits S i j) (accepted_leads A)))
