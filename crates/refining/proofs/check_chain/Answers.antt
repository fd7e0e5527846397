-- `refining::check_chain` meets its contract.
use Prim.Native.Nat.{ℕ, ◌+◌, ◌-◌, ◌*◌, max}
use mathlib.Core.List.{List}
use mathlib.Core.Path.{◌≡◌, refl, sym, ap, ◌∙◌}
use Rattle.rules.specs.Calls.{room_for, alters_locked}
use Rattle.rules.specs.Tables.{Mesh}
use Rattle.split.specs.Made.{BaseChain}
use Rattle.tables.specs.Lent.{seen}
use Rattle.refining.specs.Finding.{mesh_cornered}
use Rattle.refining.proofs.Refusing.{chain_by_tests}
use Rattle.refining.proofs.check_chain.Goals.{After-alters_locked, After-has_room}
use Rattle.refining.proofs.check_chain.Goals as goal

abbrev mesh_of : After-alters_locked → List ℕ → Mesh
mesh_of c k = mesh_cornered c.args.counts k (seen c.args.view.now)

locks_told : (c : After-alters_locked) (t : ℕ) (k : List ℕ) → BaseChain (mesh_of c k).topology t c.args.chain
    → alters_locked t (mesh_of c k) ≡ c.alters_locked.result
locks_told c t k C = sym (c.alters_locked.ensures c.args.counts c.args.view.now.positions.now k t C)

room_told : (c : After-has_room) (k : List ℕ) →
    let s = max 1 (c.args.chain.odd - c.args.chain.rim) in
    room_for (s + c.args.chain.rim) (2 * s) (mesh_cornered c.args.counts k (seen c.args.view.now)) ≡ c.has_room.result
room_told c k =
    let m = mesh_cornered c.args.counts k (seen c.args.view.now) in
    sym (c.has_room.ensures ∙ ap (λ s. room_for (s + c.args.chain.rim) (2 * s) m) c.splits.ensures)

pub returns-then-alters_locked : goal.returns-then-alters_locked
returns-then-alters_locked c t k C =
    let locks = (goal.at.returns-then-alters_locked c).After-alters_locked in
    chain_by_tests t _ _ (mesh_of locks k) (locks_told locks t k C ∙ c.if-alters_locked.true) refl

pub returns-then-not-has_room : goal.returns-then-not-has_room
returns-then-not-has_room c t k C =
    let locks = (goal.at.returns-then-not-has_room c).After-alters_locked in
    let room = (goal.at.returns-then-not-has_room c).After-has_room in
    chain_by_tests t _ _ (mesh_of locks k) (locks_told locks t k C ∙ c.if-alters_locked.false)
    (room_told room k ∙ c.if-not-has_room.true)

pub returns : goal.returns
returns c t k C =
    let locks = (goal.at.returns c).After-alters_locked in
    let room = (goal.at.returns c).After-has_room in
    chain_by_tests t _ _ (mesh_of locks k) (locks_told locks t k C ∙ c.if-alters_locked.false)
    (room_told room k ∙ c.if-not-has_room.false)
