-- What the loops that pair the sides of a cage keep.
use Rattle.std.specs.Prelude.{ℕ, ◌+◌, ◌*◌, ◌≤◌, ◌<◌, Bool, true, false, List, ◌≢◌, ◌≡◌, length, get_or}
use Rattle.rules.specs.Promises.{Matches}
use Rattle.rules.specs.Cage.{Cage}
use Rattle.rules.specs.Conditions.{SidesDiffer}
use Rattle.rules.specs.Tables.{next, previous, boundary}

-- ---- threads: the sides out of each vertex, from the last to the first

-- p is one more than the last side below i out of v, or 0 where there is none.
pub record Last (c : Cage) (i v p : ℕ) : Type 0 where
  pub most : p ≤ i
  pub from : (h : ℕ) → p ≡ h + 1 → c.corner h ≡ v
  pub none : (k : ℕ) → p ≤ k → k < i → c.corner k ≢ v

-- Of the sides below i: each vertex has its last, and each side the last before it that has its origin.
pub record Threads (c : Cage) (i : ℕ) (heads nexts : List ℕ) : Type 0 where
  pub head_room : c.vertices ≤ length heads
  pub next_room : 3 * c.triangles ≤ length nexts
  pub head : (v : ℕ) → v < c.vertices → Last c i v (get_or heads v 0)
  pub next : (h : ℕ) → h < i → Last c h (c.corner h) (get_or nexts h 0)

-- ---- stamps: at each vertex a side that ends there

-- Side k is in use, ends at w and starts at a vertex below v.
pub record EndsAt (c : Cage) (v w k : ℕ) : Type 0 where
  pub in_use : k < 3 * c.triangles
  pub onto : c.corner (next k) ≡ w
  pub from : c.corner k < v

-- A stamp is 0, or one more than a side that ends where it stands and starts below v.
pub record Stamps (c : Cage) (v : ℕ) (slots : List ℕ) : Type 0 where
  pub room : c.vertices ≤ length slots
  pub each : (w k : ℕ) → w < c.vertices → get_or slots w 0 ≡ k + 1 → EndsAt c v w k

-- Of the sides out of v, those from p on are stamped, and only those.
pub record Stamping (c : Cage) (v p : ℕ) (slots : List ℕ) : Type 0 where
  pub stamps : Stamps c (v + 1) slots
  pub late : (w k : ℕ) → w < c.vertices → get_or slots w 0 ≡ k + 1 → c.corner k ≡ v → p ≤ k
  pub seen : (h : ℕ) → p ≤ h → h < 3 * c.triangles → c.corner h ≡ v → get_or slots (c.corner (next h)) 0 ≡ h + 1

-- Either all sides out of v are stamped, or two of them have one target.
abbrev pub Stamped : Cage → ℕ → List ℕ → Bool → Type 0
Stamped c v slots true = Stamping c v 0 slots
Stamped c v slots false = ¬ SidesDiffer c

-- What a stamp says: k is the side out of v that is stamped at w; or none is, and k is the boundary.
pub data Stamp (corner : ℕ → ℕ) (slots : List ℕ) (v w : ℕ) : ℕ → Type 0 where
  taken : {k : ℕ} → get_or slots w 0 ≡ k + 1 → corner k ≡ v → Stamp corner slots v w k
  free : ((k : ℕ) → get_or slots w 0 ≡ k + 1 → corner k ≢ v) → Stamp corner slots v w boundary

-- ---- links

-- The sides into the vertices below v are linked, and of those into v each whose next side is not below p.
pub record Linking (c : Cage) (v p : ℕ) (links : List ℕ) : Type 0 where
  pub room : 3 * c.triangles ≤ length links
  pub before : (h : ℕ) → h < 3 * c.triangles → c.corner h < v → Matches c (previous h) (get_or links (previous h) 0)
  pub here : (h : ℕ) → h < 3 * c.triangles → c.corner h ≡ v → p ≤ h
      → Matches c (previous h) (get_or links (previous h) 0)

-- Either no directed side occurs twice and every side is linked to its match, or one does.
pub record Matched (c : Cage) (links : List ℕ) : Type 0 where
  pub differ : SidesDiffer c
  pub room : 3 * c.triangles ≤ length links
  pub match : (h : ℕ) → h < 3 * c.triangles → Matches c h (get_or links h 0)

abbrev pub Paired : Cage → List ℕ → Bool → Type 0
Paired c links true = Matched c links
Paired c links false = ¬ SidesDiffer c
