-- The refusals of a cage whose corners are decoded, by the tests of the code.
use mathlib.Core.Path.{◌≡◌, refl, sym, ap, ap₂, ◌∙◌}
use mathlib.Core.Logic.{inl, inr}
use mathlib.Core.Bool.{Bool, true, false, not, ◌&&◌, ◌||◌}
use mathlib.Core.List.{List, []}
use Prim.Native.Nat.{ℕ, ◌+◌, ◌*◌, ◌≤◌, ◌<◌}
use native.Mathlib.Omega.{arith}
use lib.ListN.{length, get_or}
use Rattle.theory.proofs.Loads.Alike.{SameCorners, SameSides, all_same, corners_fit_same, sides_differ_same}
use Rattle.theory.proofs.Loads.Alike.{partner_same, one_fan_same, some_turns_back_same}
use Rattle.theory.proofs.Loads.CageTests.{sizes_fit_is, corners_fit_is, sides_differ_is}
use Rattle.theory.proofs.Numbers.Decide.{Decides, is_true, is_false, is_same, when_true}
use Rattle.theory.proofs.Numbers.Fill.{length_fill, get_or_fill}
use Rattle.theory.proofs.Loads.Load.{matches_opposite, opposite_back, partner_matches, loaded_loads}
use Rattle.theory.proofs.Loads.LoadTests.{load_by_tests}
use Rattle.rules.specs.Promises.{Matches, only, alone}
use Rattle.theory.proofs.Links.Manifold.{Joined, pair}
use Rattle.theory.proofs.Soundness.SoundTest.{tables_agree_is, known_rule_is}
use Rattle.theory.proofs.Rings.Turning.{Glued}
use Rattle.rules.specs.Below.{all, any, fill}
use Rattle.rules.specs.Cage.{Cage, cage_of, partner, loaded, sizes_fit, corners_fit, coordinates_fit, sides_differ, fans_fit}
use Rattle.rules.specs.Cage.{turns_back, some_inner_of_two}
use Rattle.rules.specs.Conditions.{SizesFit, SidesDiffer}
use Rattle.rules.specs.Numbers.{number_at, signed, in_range, KnownRule, known_rule}
use Rattle.rules.specs.Sound.{has_one_fan}
use Rattle.rules.specs.Tables.{Topology, Mesh, TablesAgree, tables_agree, topology_of}
use Rattle.judging.specs.Answers.{Refuses}
use Rattle.decoding.specs.Decoded.{decoded, Readable}
use Rattle.judging.specs.Loading.{Sized, Holds}
use Rattle.pairing.specs.Fans.{TellsFit}
use Rattle.pairing.specs.Pairing.{Matched}

-- ---- matching links

matches_once : {c : Cage} {h j k : ℕ} → Matches c h j → Matches c h k → j ≡ k
matches_once (only {k} O u) M = sym (matches_opposite M k O)
matches_once (alone n) (only {k} O u) = absurd (n k O)
matches_once (alone n) (alone m) = refl

module _ (v f : ℕ) (origins partners : List ℕ) (M : Matched (decoded v f origins) partners) where
  partner_is : (h : ℕ) → h < 3 * f → get_or partners h 0 ≡ partner (decoded v f origins) h
  partner_is h l = matches_once (M.match h l) (partner_matches (decoded v f origins) M.differ h)

  joined : (h : ℕ) → h < 3 * f → Joined (topology_of v f origins partners []) h
  joined h l = go (get_or partners h 0) refl (M.match h l)
    where
      go : (k : ℕ) → get_or partners h 0 ≡ k → Matches (decoded v f origins) h k
          → Joined (topology_of v f origins partners []) h
      go k e (alone n) = inl e
      go k e (only O u) =
          inr (pair (topology_of v f origins partners []) h k e
          (matches_opposite (M.match k O.in_use) h (opposite_back (decoded v f origins) h k l O))
          O.in_use O.from O.onto (omega arith))

  -- Sides that are matched are glued.
  matched_glued : corners_fit (decoded v f origins) ≡ true → f ≤ 65536 → Glued (topology_of v f origins partners [])
  matched_glued k b = record {
    few = omega arith;
    distinct = (when_true (corners_fit_is (decoded v f origins)) k).distinct;
    joined = joined;
  }

-- ---- the tests

not_both : (a b : Bool) → not a || b ≡ not (a && not b)
not_both true true = refl
not_both true false = refl
not_both false b = refl

-- Coordinate i of the bytes is in range.
abbrev coordinate_fits : List ℕ → ℕ → Bool
coordinate_fits bytes i = in_range (signed (number_at bytes (8 + 4 * i)))

-- The cage in the bytes, with its origins decoded.
pub record Read (bytes : List ℕ) (v f : ℕ) (origins : List ℕ) : Type 0 where
  pub sized : Sized bytes v f
  pub room : 3 * f ≤ length origins
  pub same : SameCorners (decoded v f origins) (cage_of bytes)

-- Such a cage that is not refused with 3 or 4.
pub record Fits (bytes : List ℕ) (v f : ℕ) (origins : List ℕ) : Type 0 where
  pub read : Read bytes v f origins
  pub corners : corners_fit (decoded v f origins) ≡ true
  pub coordinates : all (3 * v) (coordinate_fits bytes) ≡ true

pub decode_read : {bytes : List ℕ} {v f : ℕ} (before : List ℕ) {origins : List ℕ} → Sized bytes v f
    → 3 * f ≤ length before
    → origins ≡ fill (3 * f) (λ i. number_at bytes (8 + 12 * v + 4 * i)) before → Read bytes v f origins
unfolding cage_of
decode_read {bytes} {v} {f} before Z room e =
    let corner : ℕ → ℕ = λ h. number_at bytes (8 + 12 * v + 4 * h) in
    record {
      sized = Z;
      room = rw (e, length_fill (3 * f) corner before) room;
      same = record {
        vertices = sym Z.vertices;
        triangles = sym Z.triangles;
        corner = λ h l.
            ap (λ (k : List ℕ). get_or k h 0) e ∙ get_or_fill (3 * f) corner before h 0 room l
            ∙ ap (λ (n : ℕ). number_at bytes (8 + 12 * n + 4 * h)) (sym Z.vertices);
      };
    }

-- It is neither, as two tests say.
pub decode_fits : {bytes : List ℕ} {v f : ℕ} (before : List ℕ) {origins : List ℕ} {a b : Bool} → Sized bytes v f
    → 3 * f ≤ length before
    → origins ≡ fill (3 * f) (λ i. number_at bytes (8 + 12 * v + 4 * i)) before
    → a ≡ corners_fit (decoded v f origins) → a ≡ true → b ≡ all (3 * v) (coordinate_fits bytes) → b ≡ true
    → Fits bytes v f origins
decode_fits before Z room e k c r d =
    record { read = decode_read before Z room e; corners = sym k ∙ c; coordinates = sym r ∙ d }

agrees : {m : Mesh} → TablesAgree m → tables_agree m ≡ true
agrees {m} A = is_same (tables_agree_is m) (is_true A)

known : {rule : ℕ} → KnownRule rule → known_rule rule ≡ true
known {rule} K = is_same (known_rule_is rule) (is_true K)

sizes : {bytes : List ℕ} {m : Mesh} → SizesFit bytes m → sizes_fit bytes m ≡ true
sizes {bytes} {m} S = is_same (sizes_fit_is bytes m) (is_true S)

module _ {bytes : List ℕ} {v f : ℕ} {origins : List ℕ} (R : Read bytes v f origins) where
  pub refuses_3 : corners_fit (decoded v f origins) ≡ false → Refuses bytes 3
  refuses_3 k rule m K A S =
      load_by_tests rule bytes m (agrees A) (known K) (sizes S) (sym (corners_fit_same R.same) ∙ k) refl refl refl

  in_range_lem : coordinates_fit (cage_of bytes) ≡ all (3 * v) (coordinate_fits bytes)
  unfolding coordinates_fit cage_of
  in_range_lem = ap (λ (n : ℕ). all (3 * n) (coordinate_fits bytes)) R.sized.vertices

  pub refuses_4 : corners_fit (decoded v f origins) ≡ true → all (3 * v) (coordinate_fits bytes) ≡ false → Refuses bytes 4
  refuses_4 k r rule m K A S =
      load_by_tests rule bytes m (agrees A) (known K) (sizes S) (sym (corners_fit_same R.same) ∙ k)
      (in_range_lem ∙ r) refl refl

module _ {bytes : List ℕ} {v f : ℕ} {origins : List ℕ} (F : Fits bytes v f origins) where
  pub readable : Readable v f origins
  readable = record {
    few = F.read.sized.few_triangles;
    room = F.read.room;
    corner = (when_true (corners_fit_is (decoded v f origins)) F.corners).corner;
  }

  corners : corners_fit (cage_of bytes) ≡ true
  corners = sym (corners_fit_same F.read.same) ∙ F.corners

  coordinates : coordinates_fit (cage_of bytes) ≡ true
  coordinates = in_range_lem F.read ∙ F.coordinates

  -- The test of sides that run the same way.
  differs : {b : Bool} → Decides b (SidesDiffer (decoded v f origins)) → sides_differ (cage_of bytes) ≡ b
  differs d = sym (sides_differ_same F.read.same) ∙ is_same (sides_differ_is (decoded v f origins)) d

  pub refuses_5 : ¬ SidesDiffer (decoded v f origins) → Refuses bytes 5
  refuses_5 n rule m K A S =
      load_by_tests rule bytes m (agrees A) (known K) (sizes S) corners coordinates (differs (is_false n)) refl

  module _ {partners : List ℕ} (M : Matched (decoded v f origins) partners) where
    pub holds : Holds (cage_of bytes) origins partners
    holds =
        let e = F.read.sized.triangles in
        record {
          origin_room = rw e F.read.room;
          partner_room = rw e M.room;
          origin = rw e F.read.same.corner;
          partner = λ h l.
              let i : h < 3 * f = omega arith in
              partner_is v f origins partners M h i ∙ partner_same F.read.same h i;
        }

    -- Condition 6 by the decoded lists is that of the tables that the cage is written to.
    six : {b : Bool} → TellsFit v f origins partners b → (m : Mesh) → TablesAgree m → SizesFit bytes m
        → not (fans_fit (cage_of bytes) m) || some_inner_of_two (cage_of bytes) m ≡ not b
    unfolding fans_fit some_inner_of_two
    six t m A S =
        let c : Cage = cage_of bytes in
        let n : Topology = topology_of v f origins partners [] in
        let Z = F.read.sized in
        let L = loaded_loads c m A S.vertex_room S.triangle_room in
        let E : SameSides n (loaded c m).topology =
        record {
          triangles = sym Z.triangles ∙ sym L.triangles;
          corner = λ h l.
              let i : h < 3 * c.triangles = omega (arith, Z.triangles) in
              holds.origin h i ∙ sym (L.corners h i);
          link = λ h l.
              let i : h < 3 * c.triangles = omega (arith, Z.triangles) in
              holds.partner h i ∙ sym (L.links h i);
        } in
        ap₂ (λ (a b : Bool). not a || b)
        (ap (λ (n : ℕ). all n (has_one_fan (loaded c m).topology)) Z.vertices
        ∙ sym (all_same v _ _ (λ x l. one_fan_same E x)))
        (ap (λ (n : ℕ). any (3 * n) (turns_back (loaded c m).topology)) (sym L.triangles)
        ∙ sym (some_turns_back_same E))
        ∙ not_both (all v (has_one_fan n)) (any (3 * f) (turns_back n))
        ∙ ap not (sym (t (matched_glued v f origins partners M F.corners Z.few_triangles)))

    pub refuses_6 : TellsFit v f origins partners false → Refuses bytes 6
    refuses_6 t rule m K A S =
        load_by_tests rule bytes m (agrees A) (known K) (sizes S) corners coordinates
        (differs (is_true M.differ)) (six t m A S)

    pub refuses_none : TellsFit v f origins partners true → Refuses bytes 0
    refuses_none t rule m K A S =
        load_by_tests rule bytes m (agrees A) (known K) (sizes S) corners coordinates
        (differs (is_true M.differ)) (six t m A S)
