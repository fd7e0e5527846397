-- `marks::lowest` meets its contract.
use native.Mathlib.Omega.{arith}
use mathlib.Core.Path.{◌≡◌, sym}
use mathlib.Core.List.{List}
use Prim.Native.Nat.{ℕ, ◌^◌, ◌<◌}
use lib.Count.{trailing_le}
use lib.ListN.{length, get_or}
use Rattle.std.specs.Prelude.{Some}
use Rattle.marks.specs.Marks.{Levels}
use Rattle.marks.proofs.Tables.{lowest_in, first_word, first_found, none_found, lowest_none, word_found, lowest_found}
use Rattle.marks.proofs.lowest.Goals as goal

-- The word that the first one above marks is in the table.
within : {bits words : List ℕ} {k : ℕ} → Levels bits words → Some k ≡ first_word words → get_or words k 0 < 2 ^ 64
    → lowest_in words k < length bits
within L e l = word_found _ _ L _ (first_found _ _ e l)

pub returns-in_default : goal.returns-in_default
returns-in_default c = sym (lowest_none _ _ c.requires.0 (none_found _ c.in_default.ensures))

pub overflow_mul-i : goal.overflow_mul-i
overflow_mul-i c = omega (arith, within c.requires.0 c.in-Some.ensures (c.type_inv.words _).fits)

pub overflow_add-i : goal.overflow_add-i
overflow_add-i c = omega (arith, within c.requires.0 c.in-Some.ensures (c.type_inv.words _).fits)

pub overflow_cast-result-2 : goal.overflow_cast-result-2
overflow_cast-result-2 c = omega (arith, within c.requires.0 c.in-Some.ensures (c.type_inv.words _).fits)

pub overflow_mul-result-2 : goal.overflow_mul-result-2
overflow_mul-result-2 c = omega (arith, within c.requires.0 c.in-Some.ensures (c.type_inv.words _).fits)

pub offset_bounds-bits-i : goal.offset_bounds-bits-i
offset_bounds-bits-i c = omega (arith, within c.requires.0 c.in-Some.ensures (c.type_inv.words _).fits)

pub bounds-bits-i : goal.bounds-bits-i
bounds-bits-i c = within c.requires.0 c.in-Some.ensures (c.type_inv.words _).fits

pub overflow_add-result : goal.overflow_add-result
overflow_add-result c =
    let i = lowest_in c.args.words.now c.in-Some.k in
    omega (
      arith,
      within c.requires.0 c.in-Some.ensures (c.type_inv.words _).fits,
      trailing_le 64 (get_or c.args.bits.now i 0),
    )

pub returns : goal.returns
returns c =
    sym (lowest_found _ _ c.requires.0 _ (first_found _ _ c.in-Some.ensures (c.type_inv.words _).fits)
    (c.type_inv.bits _).fits)
