-- The slots that a refine changes, listed in rising order before the work.
use Rattle.std.specs.Prelude.{ℕ, ◌+◌, ◌*◌, ◌/◌, ◌%◌, ◌<◌, List, ◌≢◌, ◌⊎◌, ◌≡◌, length, get_or}
use Rattle.rules.specs.Tables.{boundary}

-- The first n entries of l are this list.
pub record FrontIs (list l : List ℕ) (n : ℕ) : Type 0 where
  pub size : length list ≡ n
  pub entries : (i : ℕ) → i < n → get_or list i 0 ≡ get_or l i 0

-- Triangle y has the side across from side h.
abbrev pub Across : List ℕ → ℕ → ℕ → Type 0
Across links h y = (get_or links h 0 ≢ boundary) × (y ≡ get_or links h 0 / 3)

-- It is x, or has the side across from the side 1 of x.
abbrev pub Near : List ℕ → ℕ → ℕ → Type 0
Near links x y = (y ≡ x) ⊎ Across links (3 * x + 1) y

-- Side h meets the base of an odd triangle.
abbrev pub Meets : List ℕ → List ℕ → ℕ → Type 0
Meets links generations h =
    let across = get_or links h 0 in
    (across % 3 ≡ 0) × (get_or generations (across / 3) 0 % 2 ≡ 1)

-- Triangle y is that one, or has the side across from its side 1.
abbrev pub NearMet : List ℕ → List ℕ → ℕ → ℕ → Type 0
NearMet links generations h y = Meets links generations h × Near links (get_or links h 0 / 3) y

-- Triangle y is near one whose base meets triangle v.
pub data NearMets (links generations : List ℕ) (v y : ℕ) : Type 0 where
  near_met : (i : ℕ) → i < 3 → NearMet links generations (3 * v + i) y → NearMets links generations v y

-- Triangle y has the side across from side h, which is not its base or meets none.
abbrev pub Unmet : List ℕ → List ℕ → ℕ → ℕ → Type 0
Unmet links generations h y = Across links h y × ¬ Meets links generations h

-- Triangle y has the side across from side 1 or 2 of triangle v, but its base does not meet v there.
abbrev pub Beside : List ℕ → List ℕ → ℕ → ℕ → Type 0
Beside links generations v y = Unmet links generations (3 * v + 1) y ⊎ Unmet links generations (3 * v + 2) y

-- Triangle y is v, or such a one.
abbrev pub BesideEnd : List ℕ → List ℕ → ℕ → ℕ → Type 0
BesideEnd links generations v y = (y ≡ v) ⊎ Beside links generations v y

-- Each side of triangle v meets a base.
abbrev pub AllMeet : List ℕ → List ℕ → ℕ → Type 0
AllMeet links generations v = (i : ℕ) → i < 3 → Meets links generations (3 * v + i)

-- The links have side h and, where it meets a base, the side 1 of the triangle there.
pub record Met (links generations : List ℕ) (h : ℕ) : Type 0 where
  pub side : h < length links
  pub first : Meets links generations h → 3 * (get_or links h 0 / 3) + 1 < length links

-- y is near one of the first n entries.
abbrev pub NearOne : List ℕ → List ℕ → ℕ → ℕ → Type 0
NearOne links l n y = (i : ℕ) × (i < n) × Near links (get_or l i 0) y

-- The links have the sides 1 of the first n entries.
abbrev pub Sides : List ℕ → List ℕ → ℕ → Type 0
Sides links l n = (i : ℕ) → i < n → (get_or l i 0 < boundary) × (3 * get_or l i 0 + 1 < length links)

-- Near one of the first r entries of k are those near one of the first n of l, and those that P names.
pub record Joins (links l : List ℕ) (n : ℕ) (P : ℕ → Type 0) (k : List ℕ) (r : ℕ) : Type 0 where
  pub kept : (y : ℕ) → NearOne links l n y → NearOne links k r y
  pub joined : (y : ℕ) → P y → NearOne links k r y
  pub only : (y : ℕ) → NearOne links k r y → NearOne links l n y ⊎ P y
  pub sides : Sides links l n → Sides links k r
