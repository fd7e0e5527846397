-- The ring of a vertex is found: what each test tells.
use Rattle.std.proofs.Common.{Some, None, Bool, ℕ, ◌<◌, ◌≤◌, arith, true, false, List, length, get_or, ◌≡◌, refl, sym, ap}
use Rattle.std.proofs.Common.{◌∙◌}
use Rattle.theory.proofs.Numbers.Decide.{when_true}
use Rattle.theory.proofs.Rings.Fans.{first_in_use}
use Rattle.theory.proofs.Soundness.SoundTest.{sound_is}
use Rattle.rules.specs.Calls.{answer_of, buffer_room, outcome_of, zero_point, refused_with, ring_call}
use Rattle.rules.specs.Below.{fill}
use Rattle.rules.specs.Ring.{first_side, ring}
use Rattle.rules.specs.Sound.{OneFan, Sound, is_sound}
use Rattle.rules.specs.Tables.{Topology, Mesh, tables_agree, sides}
use Rattle.rings.proofs.Walk.{ring_from_lem}
use Rattle.rings.specs.Rings.{ring_from, Walkable}
use Rattle.soundness.proofs.Answers.{start_none, start_some}
use Rattle.soundness.specs.Parts.{start_if}
use Rattle.tables.specs.Refusals.{number}
use Rattle.tables.specs.declared.refusals.Refusal.{Refusal}
use Rattle.tables.proofs.Refusing.{number_some}
use Rattle.reading.specs.Answers.{Refused, Found}
use Rattle.reading.specs.declared.FoundRing.{FoundRing}
use Rattle.reading.proofs.Refusing.{ring_one, ring_seven, ring_eight, ring_fourteen, ring_none, ring_refused, ring_carried}

module _ (v room : ℕ) (m : Mesh) where
  abbrev t : Topology
  t = m.topology

  pub finds_one : tables_agree m ≡ false → Refused v room 1 m
  finds_one a = record { first = λ b _. ring_one v b m a }

  module _ (a : tables_agree m ≡ true) where
    pub finds_seven : None ≡ start_if (is_sound m) t v → Refused v room 7 m
    finds_seven s = record { first = λ b _. ring_seven v b m a (start_none (is_sound m) t v s) }

    module _ {start : ℕ} (s : Some start ≡ start_if (is_sound m) t v) where
      sound : is_sound m ≡ true
      sound = (start_some (is_sound m) t v s).0

      first : start ≡ first_side t v
      first = (start_some (is_sound m) t v s).1

      pub finds_eight : t.vertices ≤ v → Refused v room 8 m
      finds_eight l = record { first = λ b _. ring_eight v b m a sound l }

      module _ (l : v < t.vertices) where
        S : Sound m
        S = when_true (sound_is m) sound

        first_lies_in_use : first_side t v < sides t
        first_lies_in_use = let F : OneFan t v = S.fans v l in first_in_use t v F.first F.in_use F.out

        pub walkable : Walkable t.triangles start t.links
        walkable = record {
          few = omega (arith, S.tables.few_triangles, S.triangle_room);
          room = omega (arith, S.tables.links, S.triangle_room);
          in_use = omega (arith, first_lies_in_use, first);
        }

        same : ring t v ≡ ring_from t start
        same = ring_from_lem t v first_lies_in_use ∙ ap (ring_from t) (sym first)

        module _ {n : ℕ} (e : n ≡ length (ring_from t start)) where
          entries : n ≡ length (ring t v)
          entries = e ∙ ap length (sym same)

          pub finds_fourteen : room < n → Refused v room 14 m
          finds_fourteen k =
              record { first = λ b r. ring_fourteen v b m a sound l (omega (arith, entries)) }

          pub finds : n ≤ room → Found v room m (record { first = start; length = n })
          finds k = record {
            walk = walkable;
            corners = omega (arith, S.tables.corners, S.triangle_room);
            same = same;
            entries = entries;
            fits = omega (arith, entries);
            accepted = record { first = λ b r. ring_none v b m a sound l (omega (arith, entries)) };
          }

-- The ring as it is written and reported, by the walk from its first side.
pub written : (v : ℕ) (m : Mesh) (a : FoundRing) (before after : List ℕ) → Found v (length before) m a
    → after ≡ (let r = ring_from m.topology a.first in fill (length r) (λ i. get_or r i 0) before)
    → outcome_of (answer_of 0 0 0 a.length zero_point m) m (buffer_room after) ≡ ring_call v before m
written v m a before after F w =
    let e = F.same in
    rw (F.entries, w, sym e) (ring_carried v before m 0 (F.accepted.first before refl) refl)

pub refused : (v : ℕ) (m : Mesh) (buffer : List ℕ) (e : Refusal) → Refused v (length buffer) (number e) m
    → refused_with (number e) m (buffer_room buffer) ≡ ring_call v buffer m
refused v m buffer e R = ring_refused v buffer m (number e) (R.first buffer refl) (number_some e)
