-- `reporting::tell_split` meets its contract.
use native.Mathlib.Omega.{arith}
use mathlib.Core.Bool.{Bool, true≢false}
use mathlib.Core.List.{List, [], ◌∷◌, ◌++◌}
use mathlib.Core.Path.{◌≡◌, sym, ◌∙◌, subst}
use Prim.Native.Nat.{ℕ, ◌+◌, ◌≤◌}
use lib.ListN.{length}
use Rattle.theory.proofs.Splits.After.{is_flipped, is_second_flipped, flip_after}
use Rattle.reporting.specs.Told.{Tells}
use Rattle.reporting.proofs.Telling.{room_first, room_then, tells_split}
use Rattle.reporting.proofs.tell_split.Goals.{After-tell_flip-first, After-tell_flip-second}
use Rattle.reporting.proofs.tell_split.Goals as goal

-- A test by its answer.
answered : {x y : Bool} (l : List ℕ) (c : ℕ) {a b : List ℕ} {i j : ℕ} → x ≡ y → Tells (flip_after l x c) a b i j
    → Tells (flip_after l y c) a b i j
answered l c {a} {b} {i} {j} e = subst (λ (z : Bool). Tells (flip_after l z c) a b i j) e

asked : {x y : Bool} (l : List ℕ) (c i n : ℕ) → x ≡ y → i + length (flip_after l y c) ≤ n
    → i + length (flip_after l x c) ≤ n
asked l c i n e = subst (λ (z : Bool). i + length (flip_after l z c) ≤ n) (sym e)

-- The flips of the three children, in order.
module _ (l g : List ℕ) (t f : ℕ) where
  abbrev one : List ℕ
  one = flip_after l (is_flipped g t) t

  abbrev two : List ℕ
  two = flip_after l (is_second_flipped l g t f) f

  abbrev three : List ℕ
  three = flip_after l (is_flipped g (f + 1)) (f + 1)

-- Each is told, and there is room for those after it.
first_told : (c : After-tell_flip-first) →
    Tells (one c.args.tables.now.links.now c.args.tables.now.generations.now c.args.t c.args.f) c.tell_slots-slots.new.report
    c.tell_flip-first.new.report c.tell_slots-slots.result c.tell_flip-first.result
first_told c = answered c.args.tables.now.links.now c.args.t c.is_flipped.ensures c.tell_flip-first.ensures

first_room : (c : After-tell_flip-first) →
    let l = c.args.tables.now.links.now in
    let g = c.args.tables.now.generations.now in
    c.tell_flip-first.result + length (two l g c.args.t c.args.f ++ three l g c.args.t c.args.f)
    ≤ length c.tell_flip-first.new.report
first_room c =
    room_then _ (first_told c) (room_then _ c.tell_slots-slots.ensures (c.requires.4 c.if-not-telling.false))

second_told : (c : After-tell_flip-second) →
    Tells (two c.args.tables.now.links.now c.args.tables.now.generations.now c.args.t c.args.f) c.tell_flip-first.new.report
    c.tell_flip-second.new.report c.tell_flip-first.result c.tell_flip-second.result
second_told c = answered c.args.tables.now.links.now c.args.f c.is_second_flipped.ensures c.tell_flip-second.ensures

pub returns-then-not-telling : goal.returns-then-not-telling
returns-then-not-telling c q = absurd (true≢false (sym q ∙ c.if-not-telling.true))

pub tell_slots-slots-requires : goal.tell_slots-slots-requires
tell_slots-slots-requires c = (
  room_first (c.args.t ∷ c.args.f ∷ (c.args.f + 1) ∷ []) _ _ _ (c.requires.4 c.if-not-telling.false),
  omega (arith, c.requires.1, c.requires.3),
)

pub tell_flip-first-requires : goal.tell_flip-first-requires
tell_flip-first-requires c = (
  omega (arith, c.requires.0, c.requires.2),
  asked c.args.tables.now.links.now c.args.t _ _ c.is_flipped.ensures
      (room_first _ _ _ _ (room_then _ c.tell_slots-slots.ensures (c.requires.4 c.if-not-telling.false))),
)

pub tell_flip-second-requires : goal.tell_flip-second-requires
tell_flip-second-requires c = (
  omega (arith, c.requires.1, c.requires.2),
  asked c.args.tables.now.links.now c.args.f _ _ c.is_second_flipped.ensures
      (room_first _ _ _ _ (first_room (goal.at.tell_flip-second-requires c).After-tell_flip-first)),
)

pub tell_flip-requires : goal.tell_flip-requires
tell_flip-requires c =
    let first = (goal.at.tell_flip-requires c).After-tell_flip-first in
    let second = (goal.at.tell_flip-requires c).After-tell_flip-second in (
      omega (arith, c.requires.1, c.requires.2),
      asked c.args.tables.now.links.now (c.args.f + 1) _ _ c.is_flipped-2.ensures
          (room_then _ (second_told second) (first_room first)),
    )

pub returns : goal.returns
returns c q =
    let first = (goal.at.returns c).After-tell_flip-first in
    let second = (goal.at.returns c).After-tell_flip-second in
    tells_split c.args.tables.now.links.now c.args.tables.now.generations.now c.args.t c.args.f c.tell_slots-slots.ensures
    (first_told first) (second_told second)
    (answered c.args.tables.now.links.now (c.args.f + 1) c.is_flipped-2.ensures c.tell_flip.ensures)
