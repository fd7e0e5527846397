-- The cuts and flips of which splits consist, one by one, and where each puts the sides. (Request i)
use Rattle.std.specs.Prelude.{ℕ, ◌+◌, ◌*◌, ◌%◌, ◌<◌, true, false, List, [], ◌∷◌, ◌≡◌, eqb}
use Rattle.rules.specs.Split.{face_cut, rim_cut, flip}
use Rattle.rules.specs.Tables.{Topology, boundary, link, generation}

-- An action: the cut of the face split of t, the cut of the rim split of t, the flip of s and u.
pub data Action : Type 0 where
  cuts_face : ℕ → Action
  cuts_rim : ℕ → Action
  flips : ℕ → ℕ → Action

-- It may be made, slots and age aside: t is even; t is odd with its base on the boundary; the bases of s and u, of one
-- odd generation, meet.
abbrev pub MayAct : Action → Topology → Type 0
MayAct (cuts_face t) m = (t < m.triangles) × (generation m t % 2 ≡ 0)
MayAct (cuts_rim t) m = (t < m.triangles) × (generation m t % 2 ≡ 1) × (link m (3 * t) ≡ boundary)
MayAct (flips s u) m =
    (s < m.triangles) × (u < m.triangles) × (link m (3 * s) ≡ 3 * u) × (generation m s % 2 ≡ 1)
    × (generation m u ≡ generation m s)

-- What it makes of m.
abbrev pub acted : Action → Topology → Topology
acted (cuts_face t) m = face_cut t m
acted (cuts_rim t) m = rim_cut t m
acted (flips s u) m = flip s u m

-- Side a becomes a' and b becomes b'; every other side keeps its number.
unfoldable pub rename_two : ℕ → ℕ → ℕ → ℕ → ℕ → ℕ
rename_two a a' b b' h = elim (eqb h a) [
  | true ↦ a'
  | false ↦ elim (eqb h b) [ true ↦ b' | false ↦ h ]
]

-- Where side h of m is after it. In the drawings of Split, the face split of t = (A,B,C) leaves AB in slot t and puts
-- BC and CA into the new slots; the rim split of t = (A,B,P) puts BP into the second of them and turns t round, with
-- PA first; the flip leaves PA in slot s and QB in slot u, and BP and AQ change slots. The base of the rim split and
-- the two of the flip are sides no more, and no other triangle's link names them. The boundary, 3 times 1431655765, is
-- never renamed.
abbrev pub place_after : Action → Topology → ℕ → ℕ
place_after (cuts_face t) m = rename_two (3 * t + 1) (3 * m.triangles) (3 * t + 2) (3 * (m.triangles + 1))
place_after (cuts_rim t) m = rename_two (3 * t + 1) (3 * (m.triangles + 1)) (3 * t + 2) (3 * t)
place_after (flips s u) m = rename_two (3 * s + 1) (3 * u) (3 * u + 1) (3 * s)

-- The same for a list of actions, one after the other.
abbrev pub MayActAll : List Action → Topology → Type 0
MayActAll [] m = Unit {0}
MayActAll (a ∷ rest) m = MayAct a m × MayActAll rest (acted a m)

abbrev pub acted_all : List Action → Topology → Topology
acted_all [] m = m
acted_all (a ∷ rest) m = acted_all rest (acted a m)

abbrev pub place_after_all : List Action → Topology → ℕ → ℕ
place_after_all [] m h = h
place_after_all (a ∷ rest) m h = place_after_all rest (acted a m) (place_after a m h)

-- Cuts and flips that may be made lead from m to n.
pub record LeadsTo (m n : Topology) : Type 0 where
  pub actions : List Action
  pub may_act : MayActAll actions m
  pub makes : acted_all actions m ≡ n

-- Where side h of m is in n.
abbrev pub new_place : {m n : Topology} → LeadsTo m n → ℕ → ℕ
new_place {m} L h = place_after_all L.actions m h
