-- The slots that a refine changes, as they are listed before the work.
use mathlib.Core.Path.{◌≡◌, sym, ap, ◌∙◌, subst}
use mathlib.Core.Bool.{Bool, true, false}
use mathlib.Core.List.{List}
use mathlib.Core.Logic.{◌⊎◌, inl, inr, ⊎_elim}
use Prim.Native.Nat.{ℕ, zero, suc, ◌+◌, ◌-◌, ◌*◌, ◌/◌, ◌%◌, ◌≤◌, ◌<◌}
use native.Mathlib.Decide.{ℕ_discrete, dec_lt}
use native.Mathlib.Omega.{arith}
use lib.ListN.{length, get_or, set, take, drop}
use lib.Seq.{get_or-set_same, get_or-set_other, get_or-take, get_or-drop}
use Rattle.std.proofs.lemmas.List.{length-take-le}
use Rattle.theory.proofs.Calls.Carried.{found_young}
use Rattle.theory.proofs.Chains.Altering.{place_altered, end_altered, met_altered, beside}
use Rattle.theory.proofs.Chains.Chain.{path_odd, path_meets, path_next}
use Rattle.theory.proofs.Chains.Listed.{Changes, on_chain, beside_chain, is_end, beside_end, beside_met, changes_exactly}
use Rattle.theory.proofs.Chains.Refine.{chain_path, chain_bound}
use Rattle.theory.proofs.Chains.Remembered.{path_none, path_from, path_last}
use Rattle.theory.proofs.Links.Manifold.{Manifold, Partnered, Base, partnered}
use Rattle.theory.proofs.Numbers.Decide.{when_true, when_false}
use Rattle.theory.proofs.Numbers.Those.{those_are}
use Rattle.theory.proofs.Soundness.Relaxed.{sound_manifold}
use Rattle.theory.proofs.Splits.Bases.{base_is, boundary_not_base}
use Rattle.rules.specs.Calls.{rim_splits_of}
use Rattle.rules.specs.Notes.{differs, changed_slots, refined}
use Rattle.rules.specs.Sound.{Sound}
use Rattle.rules.specs.Split.{chain_end, chain_odd, chain_at}
use Rattle.rules.specs.Tables.{Mesh, topology_of, link, generation, is_base, boundary}
use Rattle.split.specs.Made.{BaseChain}
use Rattle.split.specs.declared.Chain.{Chain}
use Rattle.noting.proofs.Passing.{passing_front}
use Rattle.noting.proofs.Inserting.{adds_none, adds_as, adds_then}
use Rattle.noting.specs.Rising.{Rising, Among, Adds}
use Rattle.noting.specs.Changed.{FrontIs, Across, Near, Meets, NearMet, NearMets, BesideEnd, Met, NearOne, Sides}
use Rattle.noting.specs.Changed.{near_met, AllMeet, Joins}
use Rattle.refining.specs.Finding.{Goes}

-- ---- the chain

module _ (links l : List ℕ) {slots : List ℕ} {n : ℕ} where
  pub chain_begins : Rising slots n → Adds slots n (NearOne links l 0) slots n
  chain_begins R = adds_none R (λ y z. omega (arith, z.1))

  pub chain_on : {k j : List ℕ} {i r b : ℕ} → Adds slots n (NearOne links l i) k r
      → Adds k r (Near links (get_or l i 0)) j b → Adds slots n (NearOne links l (i + 1)) j b
  chain_on {i = i} A B = adds_as to from (adds_then A B)
    where
      to : (y : ℕ) → NearOne links l i y ⊎ Near links (get_or l i 0) y → NearOne links l (i + 1) y
      to y (inl (j, b, N)) = (j, omega arith, N)
      to y (inr N) = (i, omega arith, N)

      here : (y j : ℕ) → j < i + 1 → Near links (get_or l j 0) y → Dec (j ≡ i)
          → NearOne links l i y ⊎ Near links (get_or l i 0) y
      here y j b N (yes e) = inr (subst (λ (h : ℕ). Near links (get_or l h 0) y) e N)
      here y j b N (no e) = inl (j, omega arith, N)

      from : (y : ℕ) → NearOne links l (i + 1) y → NearOne links l i y ⊎ Near links (get_or l i 0) y
      from y (j, b, N) = here y j b N (ℕ_discrete j i)

-- The front of a list has what its first entries have.
module _ (links l : List ℕ) (n : ℕ) (h : n ≤ length l) where
  pub front_size : length (take n l) ≡ n
  front_size = length-take-le n l h

  front_entry : (i : ℕ) → i < length (take n l) → get_or (take n l) i 0 ≡ get_or l i 0
  front_entry i b = get_or-take n l i 0 (omega (arith, front_size))

  pub front_near : {slots k : List ℕ} {a r : ℕ} → Adds slots a (NearOne links (take n l) (length (take n l))) k r
      → Adds slots a (NearOne links l n) k r
  front_near = adds_as to from
    where
      to : (y : ℕ) → NearOne links (take n l) (length (take n l)) y → NearOne links l n y
      to y (i, b, N) =
          (i, omega (arith, front_size), subst (λ (x : ℕ). Near links x y) (front_entry i b) N)

      from : (y : ℕ) → NearOne links l n y → NearOne links (take n l) (length (take n l)) y
      from y (i, b, N) =
          let q : i < length (take n l) = omega (arith, front_size) in
          (i, q, subst (λ (x : ℕ). Near links x y) (sym (front_entry i q)) N)

  pub front_sides : Sides links l n → Sides links (take n l) (length (take n l))
  front_sides S i b =
      let (x, y) = S i (omega (arith, front_size)) in
      (omega (arith, front_entry i b, x), omega (arith, front_entry i b, y))

-- ---- triangles put behind others

module _ {links l : List ℕ} {n : ℕ} where
  pub joins_none : {P : ℕ → Type 0} → ((y : ℕ) → ¬ P y) → Joins links l n P l n
  joins_none f = record {
    kept = λ y N. N;
    joined = λ y p. absurd (f y p);
    only = λ y N. inl N;
    sides = λ H. H;
  }

  pub joins_as : {k : List ℕ} {r : ℕ} {P Q : ℕ → Type 0} → ((y : ℕ) → P y → Q y) → ((y : ℕ) → Q y → P y)
      → Joins links l n P k r → Joins links l n Q k r
  joins_as f g J = record {
    kept = J.kept;
    joined = λ y q. J.joined y (g y q);
    only = λ y N. ⊎_elim (λ a. inl a) (λ p. inr (f y p)) (J.only y N);
    sides = J.sides;
  }

  pub joins_then : {k j : List ℕ} {a b : ℕ} {P Q : ℕ → Type 0} → Joins links l n P k a → Joins links k a Q j b
      → Joins links l n (λ y. P y ⊎ Q y) j b
  joins_then J K = record {
    kept = λ y N. K.kept y (J.kept y N);
    joined = λ y z. ⊎_elim (λ p. K.kept y (J.joined y p)) (λ q. K.joined y q) z;
    only = λ y N.
        ⊎_elim (λ M. ⊎_elim (λ a. inl a) (λ p. inr (inl p)) (J.only y M)) (λ q. inr (inr q)) (K.only y N);
    sides = λ H. K.sides (J.sides H);
  }

-- One triangle more.
pub joins_one : (links l : List ℕ) (n x : ℕ) → n < length l → x < boundary → 3 * x + 1 < length links
    → Joins links l n (Near links x) (set l n x) (n + 1)
joins_one links l n x r s e = record {
  kept = λ y N. (N.0, omega (arith, N.1), subst (λ (h : ℕ). Near links h y) (sym (low N.0 N.1)) N.2);
  joined = λ y N. (n, omega arith, subst (λ (h : ℕ). Near links h y) (sym here) N);
  only = λ y N. tells y N.0 N.1 N.2 (ℕ_discrete N.0 n);
  sides = λ H i b. has H i b (ℕ_discrete i n);
}
  where
    low : (i : ℕ) → i < n → get_or (set l n x) i 0 ≡ get_or l i 0
    low i b = get_or-set_other l n i x 0 (λ z. omega arith)

    here : get_or (set l n x) n 0 ≡ x
    here = get_or-set_same l n x 0 r

    tells : (y i : ℕ) → i < n + 1 → Near links (get_or (set l n x) i 0) y → Dec (i ≡ n)
        → NearOne links l n y ⊎ Near links x y
    tells y i b N (yes q) =
        inr (subst (λ (h : ℕ). Near links h y) (ap (λ (h : ℕ). get_or (set l n x) h 0) q ∙ here) N)
    tells y i b N (no q) =
        let d : i < n = omega arith in
        inl (i, d, subst (λ (h : ℕ). Near links h y) (low i d) N)

    has : Sides links l n → (i : ℕ) → i < n + 1 → Dec (i ≡ n)
        → (get_or (set l n x) i 0 < boundary) × (3 * get_or (set l n x) i 0 + 1 < length links)
    has H i b (yes q) =
        let z : get_or (set l n x) i 0 ≡ x = ap (λ (h : ℕ). get_or (set l n x) h 0) q ∙ here in
        (omega arith, omega arith)
    has H i b (no q) =
        let d : i < n = omega arith in
        let (f, g) = H i d in
        (omega (arith, low i d, f), omega (arith, low i d, g))

-- ---- bases that meet a side

-- b says whether side h meets the base of an odd triangle.
pub record MeetsWhen (links generations : List ℕ) (h : ℕ) (b : Bool) : Type 0 where
  pub meets : b ≡ true → Meets links generations h
  pub none : b ≡ false → ¬ Meets links generations h

pub meets_told : (links generations : List ℕ) (h : ℕ) {b : Bool}
    → let m = topology_of 0 0 links links generations in b ≡ is_base m (link m h) → MeetsWhen links generations h b
meets_told links generations h e =
    let m = topology_of 0 0 links links generations in record {
      meets = λ t. when_true (base_is m (link m h)) (sym e ∙ t);
      none = λ f. when_false (base_is m (link m h)) (sym e ∙ f);
    }

meets_or_not : (links generations : List ℕ) (h : ℕ) → Dec (Meets links generations h)
meets_or_not links generations h =
    go (ℕ_discrete (get_or links h 0 % 3) 0) (ℕ_discrete (get_or generations (get_or links h 0 / 3) 0 % 2) 1)
  where
    go : Dec (get_or links h 0 % 3 ≡ 0) → Dec (get_or generations (get_or links h 0 / 3) 0 % 2 ≡ 1)
        → Dec (Meets links generations h)
    go (yes a) (yes b) = yes (a, b)
    go (no a) b = no (λ z. a z.0)
    go (yes a) (no b) = no (λ z. b z.1)

-- Side 0 of a triangle by its number.
pub met_base : {links generations : List ℕ} (v : ℕ) → ((i : ℕ) → i < 3 → Met links generations (3 * v + i))
    → Met links generations (3 * v)
met_base {links} {generations} v M =
    let e : 3 * v + 0 ≡ 3 * v = omega arith in
    subst (λ (h : ℕ). Met links generations h) e (M 0 (omega arith))

-- The sides of triangle v one by one.
module _ (links generations : List ℕ) (v : ℕ) where
  abbrev OneByOne : ℕ → Type 0
  OneByOne y =
      (NearMet links generations (3 * v) y ⊎ NearMet links generations (3 * v + 1) y)
      ⊎ NearMet links generations (3 * v + 2) y

  pub one_by_one : {l k : List ℕ} {n r : ℕ} → Joins links l n OneByOne k r
      → Joins links l n (NearMets links generations v) k r
  one_by_one J = joins_as to from J
    where
      to : (y : ℕ) → OneByOne y → NearMets links generations v y
      to y (inl (inl M)) =
          let e : 3 * v ≡ 3 * v + 0 = omega arith in
          near_met 0 (omega arith) (subst (λ (h : ℕ). NearMet links generations h y) e M)
      to y (inl (inr M)) = near_met 1 (omega arith) M
      to y (inr M) = near_met 2 (omega arith) M

      from : (y : ℕ) → NearMets links generations v y → OneByOne y
      from y (near_met zero b M) =
          let e : 3 * v + 0 ≡ 3 * v = omega arith in
          inl (inl (subst (λ (h : ℕ). NearMet links generations h y) e M))
      from y (near_met (suc zero) b M) = inl (inr M)
      from y (near_met (suc (suc zero)) b M) = inr M
      from y (near_met (suc (suc (suc i))) b M) = absurd (omega arith)

  pub all_meet : Meets links generations (3 * v) → Meets links generations (3 * v + 1)
      → Meets links generations (3 * v + 2) → AllMeet links generations v
  all_meet a b c zero d =
      let e : 3 * v ≡ 3 * v + 0 = omega arith in
      subst (λ (h : ℕ). Meets links generations h) e a
  all_meet a b c (suc zero) d = b
  all_meet a b c (suc (suc zero)) d = c
  all_meet a b c (suc (suc (suc i))) d = absurd (omega arith)

  -- Where all sides meet bases, none is beside it.
  pub end_alone : {l k : List ℕ} {n r : ℕ} → AllMeet links generations v → Adds l n (λ y. y ≡ v) k r
      → Adds l n (BesideEnd links generations v) k r
  end_alone M A = adds_as (λ y e. inl e) alone A
    where
      alone : (y : ℕ) → BesideEnd links generations v y → y ≡ v
      alone y (inl e) = e
      alone y (inr (inl (a, o))) = absurd (o (M 1 (omega arith)))
      alone y (inr (inr (a, o))) = absurd (o (M 2 (omega arith)))

-- ---- what is listed is what changes

module _ {t : ℕ} {m : Mesh} (S : Sound m) (u : t < m.topology.triangles) where
  F : Manifold m.topology
  F = sound_manifold S

  -- The triangle across a side in use is in use.
  across_used : {x : ℕ} (h : ℕ) → h < 3 * m.topology.triangles → Across m.topology.links h x
      → x < m.topology.triangles
  across_used h b (q, e) =
      let M : Partnered m.topology h = partnered (F.linked h b) q in
      omega (arith, M.in_use)

  changes_used : {x : ℕ} → Changes m.topology t x → x < m.topology.triangles
  changes_used (on_chain i l e) = omega (arith, (place_altered t m S u i l).0)
  changes_used (beside_chain i l q e) =
      across_used (3 * chain_at i m.topology t + 1) (omega (arith, (place_altered t m S u i l).0)) (q, e)
  changes_used (is_end e) = omega (arith, (end_altered t m S u).0)
  changes_used (beside_end i l q o e) =
      across_used (3 * chain_end m.topology t + i) (omega (arith, (end_altered t m S u).0)) (q, e)
  changes_used (beside_met i l B q e) =
      across_used (3 * (link m.topology (3 * chain_end m.topology t + i) / 3) + 1)
      (omega (arith, (met_altered t m S u i l B).0)) (q, e)

  -- The slots that are listed, by the base chain.
  abbrev Chained : ℕ → Type 0
  Chained y = (i : ℕ) × (suc i < chain_odd m.topology t) × Near m.topology.links (chain_at i m.topology t) y

  -- With v for its end.
  abbrev ListedBy : ℕ → ℕ → Type 0
  ListedBy v y =
      (Chained y ⊎ NearMets m.topology.links m.topology.generations v y)
      ⊎ BesideEnd m.topology.links m.topology.generations v y

  abbrev Listed : ℕ → Type 0
  Listed y = ListedBy (chain_end m.topology t) y

  listed_changes : {y : ℕ} → Listed y → Changes m.topology t y
  listed_changes (inl (inl (i, l, inl e))) = on_chain i (omega arith) e
  listed_changes (inl (inl (i, l, inr (q, e)))) = beside_chain i (omega arith) q e
  listed_changes (inl (inr (near_met i l (B, inl e)))) =
      beside_end i l (λ z. boundary_not_base m.topology F (subst (Base m.topology) z B)) (inr B) e
  listed_changes (inl (inr (near_met i l (B, inr (q, e))))) = beside_met i l B q e
  listed_changes (inr (inl e)) = is_end e
  listed_changes (inr (inr (inl ((q, e), o)))) = beside_end 1 (omega arith) q (inl (omega arith)) e
  listed_changes (inr (inr (inr ((q, e), o)))) = beside_end 2 (omega arith) q (inl (omega arith)) e

  -- What lies across side 1 or 2 of the end, whether its base meets it or not.
  beside_first : {y : ℕ} → Across m.topology.links (3 * chain_end m.topology t + 1) y → Listed y
  beside_first {y} A =
      go (meets_or_not m.topology.links m.topology.generations (3 * chain_end m.topology t + 1))
    where
      go : Dec (Meets m.topology.links m.topology.generations (3 * chain_end m.topology t + 1)) → Listed y
      go (yes M) = inl (inr (near_met 1 (omega arith) (M, inl A.1)))
      go (no o) = inr (inr (inl (A, o)))

  beside_second : {y : ℕ} → Across m.topology.links (3 * chain_end m.topology t + 2) y → Listed y
  beside_second {y} A =
      go (meets_or_not m.topology.links m.topology.generations (3 * chain_end m.topology t + 2))
    where
      go : Dec (Meets m.topology.links m.topology.generations (3 * chain_end m.topology t + 2)) → Listed y
      go (yes M) = inl (inr (near_met 2 (omega arith) (M, inl A.1)))
      go (no o) = inr (inr (inr (A, o)))

  near_end : {y : ℕ} → Near m.topology.links (chain_end m.topology t) y → Listed y
  near_end (inl e) = inr (inl e)
  near_end (inr A) = beside_first A

  -- The last odd triangle of the chain is its end, or its base meets the end.
  near_last : {y : ℕ} (i : ℕ) → i < chain_odd m.topology t → chain_odd m.topology t ≤ suc i
      → Near m.topology.links (chain_at i m.topology t) y → Listed y
  near_last {y} i l o N = go (dec_lt i (chain_odd m.topology t - rim_splits_of m.topology t))
    where
      x : ℕ
      x = chain_at i m.topology t

      go : Dec (i < chain_odd m.topology t - rim_splits_of m.topology t) → Listed y
      go (yes q) =
          let p = path_from i 1 (omega arith) (chain_path t m S u) in
          let b = (place_altered t m S u i l).0 in
          let h = link m.topology (3 * chain_at i m.topology t) in
          let e = beside (chain_at i m.topology t) (partnered (F.linked (3 * chain_at i m.topology t) (omega arith))
          (path_meets p)) (sym (path_none (path_next p))) in
          let f : chain_at i m.topology t
          ≡ link m.topology (3 * chain_end m.topology t + h % 3) / 3 = omega (arith, e) in
          inl (inr (near_met (h % 3) (omega arith) (
            (omega (arith, e), subst (λ (z : ℕ). generation m.topology z % 2 ≡ 1) f (path_odd p)),
            subst (λ (z : ℕ). Near m.topology.links z y) f N,
          )))
      go (no q) =
          let z : chain_odd m.topology t - rim_splits_of m.topology t ≡ i = omega arith in
          let e = path_last (chain_path t m S u) ∙ ap (λ (j : ℕ). chain_at j m.topology t) z in
          near_end (subst (λ (d : ℕ). Near m.topology.links d y) (sym e) N)

  listed_on_chain : {y : ℕ} (i : ℕ) → i < chain_odd m.topology t
      → Near m.topology.links (chain_at i m.topology t) y → Listed y
  listed_on_chain {y} i l N = go (dec_lt (suc i) (chain_odd m.topology t))
    where
      go : Dec (suc i < chain_odd m.topology t) → Listed y
      go (yes b) = inl (inl (i, b, N))
      go (no b) = near_last i l (omega arith) N

  changes_listed : {y : ℕ} → Changes m.topology t y → Listed y
  changes_listed (on_chain i l e) = listed_on_chain i l (inl e)
  changes_listed (beside_chain i l q e) = listed_on_chain i l (inr (q, e))
  changes_listed (is_end e) = near_end (inl e)
  changes_listed (beside_end i l q (inr B) e) = inl (inr (near_met i l (B, inl e)))
  changes_listed (beside_end zero l q (inl o) e) = absurd (omega arith)
  changes_listed (beside_end (suc zero) l q (inl o) e) = beside_first (q, e)
  changes_listed (beside_end (suc (suc zero)) l q (inl o) e) = beside_second (q, e)
  changes_listed (beside_end (suc (suc (suc i))) l q (inl o) e) = absurd (omega arith)
  changes_listed (beside_met i l B q e) = inl (inr (near_met i l (B, inr (q, e))))

-- The chain that is found is the one of the rules.
module _ {t : ℕ} {m : Mesh} {c : Chain} (G : Goes t m c) where
  S : Sound m
  S = G.found.sound

  u : t < m.topology.triangles
  u = G.found.in_use

  C : BaseChain m.topology t c
  C = G.chain

  -- Those near the odd triangles but the last, and those near one whose base meets the end.
  abbrev pub ByChain : ℕ → Type 0
  ByChain y =
      NearOne m.topology.links c.slots (c.odd - 1) y
      ⊎ NearMets m.topology.links m.topology.generations c.end y

  abbrev AtEnd : ℕ → Type 0
  AtEnd y = BesideEnd m.topology.links m.topology.generations c.end y

  by_chain : {y : ℕ} → ByChain y ⊎ AtEnd y → Changes m.topology t y
  by_chain {y} z = listed_changes S u (subst (λ (v : ℕ). ListedBy S u v y) C.end (go z))
    where
      go : ByChain y ⊎ AtEnd y → ListedBy S u c.end y
      go (inl (inl (i, l, N))) =
          let b : i < c.odd = omega arith in
          inl (inl (i, omega (arith, C.odd), subst (λ (x : ℕ). Near m.topology.links x y) (C.slots i b) N))
      go (inl (inr M)) = inl (inr M)
      go (inr E) = inr E

  to_chain : {y : ℕ} → Changes m.topology t y → ByChain y ⊎ AtEnd y
  to_chain {y} d = go (subst (λ (v : ℕ). ListedBy S u v y) (sym C.end) (changes_listed S u d))
    where
      go : ListedBy S u c.end y → ByChain y ⊎ AtEnd y
      go (inl (inl (i, l, N))) =
          let b : i < c.odd = omega (arith, C.odd) in
          inl (inl (i, omega (arith, C.odd), subst (λ (x : ℕ). Near m.topology.links x y) (sym (C.slots i b)) N))
      go (inl (inr M)) = inl (inr M)
      go (inr E) = inr E

  -- Listed where there was none, they are the slots that change.
  pub all_listed : {odd l k : List ℕ} {n r : ℕ}
      → Joins m.topology.links c.slots (c.odd - 1)
      (NearMets m.topology.links m.topology.generations c.end) odd n
      → Adds l 32 (λ y. NearOne m.topology.links odd n y ⊎ AtEnd y) k r
      → FrontIs (changed_slots m (refined t m)) (drop (r + 1) k) (32 - r)
  all_listed {odd} {l} {k} {n} {r} J A =
      passing_front m.topology.triangles (differs m (refined t m)) (record {
        rises = rises;
        below = λ x a. changes_used S u (change x a);
        pass = λ x a. (changes_exactly G.found x (changes_used S u (change x a))).1 (change x a);
        whole = λ x b d. front x (A.added x (joined x (to_chain ((changes_exactly G.found x b).0 d))));
      })
    where
      rises : (i : ℕ) → suc i < 32 - r → get_or (drop (r + 1) k) i 0 < get_or (drop (r + 1) k) (suc i) 0
      rises i b =
          let e : r + 1 + suc i ≡ suc (r + 1 + i) = omega arith in
          omega (
            arith,
            get_or-drop (r + 1) k i 0,
            get_or-drop (r + 1) k (suc i) 0,
            ap (λ (h : ℕ). get_or k h 0) e,
            A.rises.rises (r + 1 + i) (omega arith) (omega arith),
          )

      front : (x : ℕ) → Among k r x → (i : ℕ) × (i < 32 - r) × (get_or (drop (r + 1) k) i 0 ≡ x)
      front x (i, b, d, e) =
          let f : r + 1 + (i - r - 1) ≡ i = omega arith in
          (i - r - 1, omega arith, get_or-drop (r + 1) k (i - r - 1) 0 ∙ ap (λ (h : ℕ). get_or k h 0) f ∙ e)

      joined : (x : ℕ) → ByChain x ⊎ AtEnd x → NearOne m.topology.links odd n x ⊎ AtEnd x
      joined x (inl (inl N)) = inl (J.kept x N)
      joined x (inl (inr M)) = inl (J.joined x M)
      joined x (inr E) = inr E

      told : (x : ℕ) → Among l 32 x ⊎ (NearOne m.topology.links odd n x ⊎ AtEnd x) → Changes m.topology t x
      told x (inl (i, b, d, e)) = absurd (omega arith)
      told x (inr (inl N)) = by_chain (inl (J.only x N))
      told x (inr (inr E)) = by_chain (inr E)

      change : (x : ℕ) → (i : ℕ) × (i < 32 - r) × (get_or (drop (r + 1) k) i 0 ≡ x) → Changes m.topology t x
      change x (i, b, e) =
          told x (A.only x (r + 1 + i, omega arith, omega arith, sym (get_or-drop (r + 1) k i 0) ∙ e))

  -- The sides of what is listed have entries.
  pub end_entries : 3 * c.end + 2 < length m.topology.links
  end_entries = omega (arith, C.end, (end_altered t m S u).0, (sound_manifold S).link_room)

  pub end_slot : c.end < boundary
  end_slot = omega (arith, C.end, (end_altered t m S u).0, S.triangle_room, S.tables.few_triangles)

  pub met_entries : (i : ℕ) → i < 3 → Met m.topology.links m.topology.generations (3 * c.end + i)
  met_entries i b = record {
    side = omega (arith, end_entries);
    first = λ M. omega (
      arith,
      (met_altered t m S u i b (subst (λ (v : ℕ). Base m.topology (link m.topology (3 * v + i))) C.end M)).0,
      ap (λ (v : ℕ). link m.topology (3 * v + i)) C.end,
      (sound_manifold S).link_room,
    );
  }

  pub place_entries : (i : ℕ) → i < c.odd
      → (get_or c.slots i 0 < boundary) × (3 * get_or c.slots i 0 + 1 < length m.topology.links)
  place_entries i b =
      let a = (place_altered t m S u i (omega (arith, C.odd))).0 in (
        omega (arith, C.slots i b, a, S.triangle_room, S.tables.few_triangles),
        omega (arith, C.slots i b, a, (sound_manifold S).link_room),
      )

  -- A chain has few odd triangles.
  pub few_places : c.odd ≤ 11
  few_places = omega (arith, C.odd, chain_bound t m S u, found_young G.found)

-- A part that has them all begins with them, too.
pub front_part : {list l : List ℕ} {n : ℕ} (q : ℕ) → FrontIs list l n → n ≤ q → FrontIs list (take q l) n
front_part {l = l} q H b = record {
  size = H.size;
  entries = λ i d. H.entries i d ∙ sym (get_or-take q l i 0 (omega arith));
}

-- The slots that change are in use.
pub changed_below : (m n : Mesh) {k : List ℕ} {r : ℕ} → FrontIs (changed_slots m n) k r → (i : ℕ) → i < r
    → get_or k i 0 < m.topology.triangles
changed_below m n H i b =
    let l = (those_are m.topology.triangles (differs m n)).below i (omega (arith, H.size)) in
    omega (arith, H.entries i b)
