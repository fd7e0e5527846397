-- The rules of root-three refinement on whole numbers, in reading order. Brackets name the chapter of the outline that
-- a module or a definition renders.
--
-- How to read them. Values: `a ∷ b ∷ []` is a list; `xs ++ ys` is xs and then ys; `get_or l i d` is entry i of l, and d
-- past its end; `set l i x` is l with x at i, and l itself where i is past the end; `drop n l` is l without its first
-- n; `(a, b, c)` is a triple, of type `A × B × C`; `r.field` is a field of a record, and `p.0` the first of a pair;
-- `λ x. y` is the function that gives y for x; `zero` and `suc n` are 0 and n + 1; `elim n [ zero ↦ x | suc k ↦ y ]` is
-- x where n is 0, and else y, in which k is n - 1; `/` rounds down, and `%` is the remainder; `pos n` is n and `negsuc
-- n` is -1 - n. Tests: `eqb`, `ltb`, `leb` test =, <, ≤, and `le_z` tests ≤ of whole numbers with a sign, which `≤ℤ`
-- states; `&&`, `||`, `not` are "and", "or", "not"; `elim b [ true ↦ x | false ↦ y ]` is x or y by the test b.
-- Statements: `T b` says that b is true; `≡` is "equal" and `≢` "different"; `A × B` is "and", `A ⊎ B` "or", `¬ A`
-- "not", `A → B` "if A then B", `(x : A) → B` "for every x", `(x : A) × B` "some x with B"; `Unit {0}` always holds; a
-- `record` says all that its fields say, a `data` one of its cases. The marks `abbrev` and `unfoldable` only tell the
-- prover when to look inside.
pub mod Numbers
pub mod Below
pub mod Tables
pub mod Spares
pub mod Ring
pub mod Sound
pub mod Split
pub mod Actions
pub mod Step
pub mod Cage
pub mod Calls
pub mod Lists
pub mod Boxes
pub mod Notes
pub mod Reports
pub mod Rim
pub mod Conditions
pub mod Runs
pub mod History
pub mod Promises
pub mod Mirror
