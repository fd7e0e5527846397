-- Several children settled one after the other.
use mathlib.Core.Path.{◌≡◌, refl, sym, ap, ◌∙◌, subst}
use mathlib.Core.Logic.{◌≢◌, ◌⊎◌, inl, inr}
use mathlib.Core.List.{List, [], ◌∷◌}
use Prim.Native.Nat.{ℕ, suc, ◌+◌, ◌*◌, ◌/◌, ◌%◌, ◌≤◌, ◌<◌}
use native.Mathlib.Omega.{arith}
use native.Mathlib.Decide.{ℕ_discrete, dec_le}
use Rattle.theory.proofs.Splits.Bases.{Child, Settling, kept, flipped, settling_manifold}
use Rattle.theory.proofs.Splits.Edges.{boundary_sides, settling_boundary}
use Rattle.theory.proofs.Numbers.Entries.{Each, Some, each_both, some_with}
use Rattle.theory.proofs.Splits.Following.{follows_none, follows_one, follows_on}
use Rattle.theory.proofs.Splits.FlipRead.{flip_name, flip_name_else, by_flip_name}
use Rattle.theory.proofs.Links.Manifold.{Manifold, BasesMeetIn}
use Rattle.theory.proofs.Links.Past.{Past, past_same, past_on}
use Rattle.theory.proofs.Splits.Settling.{Same, settling_child, settling_bases, same_all, settling_same}
use Rattle.theory.proofs.Splits.Settling.{settling_past}
use Rattle.theory.proofs.Splits.Settling.{settling_generation, settling_flips, settling_waits, Follow}
use Rattle.theory.proofs.Splits.Settling.{settling_follow}
use Rattle.theory.proofs.Splits.Settling.{settling_spread, settling_meets}
use Rattle.rules.specs.Actions.{flips}
use Rattle.rules.specs.Promises.{Still, Written}
use Rattle.rules.specs.Tables.{Topology, sides, origin, boundary, link, generation}

-- The children cs, settled in this order.
pub data Settled : List ℕ → Topology → Topology → Type 0 where
  done : {m : Topology} → Settled [] m m
  then : {c : ℕ} {cs : List ℕ} {m k n : Topology} → Settling c m k → Settled cs k n → Settled (c ∷ cs) m n

abbrev pub nowhere : ℕ → Type 0
nowhere x = ⊥

abbrev pub Among : List ℕ → ℕ → Type 0
Among cs x = Some (λ c. x ≡ c) cs

abbrev pub Children : ℕ → ℕ → Topology → List ℕ → Type 0
Children p g m cs = Each (λ c. Child p g c m) cs

abbrev pub Without : ℕ → List ℕ → Type 0
Without c cs = Each (λ d. d ≢ c) cs

abbrev pub Distinct : List ℕ → Type 0
Distinct [] = Unit {0}
Distinct (c ∷ cs) = Without c cs × Distinct cs

-- The base of x meets the base of one of them.
abbrev pub Met : ℕ → Topology → List ℕ → Type 0
Met x m cs = Some (λ c. link m (3 * c) ≡ 3 * x) cs

-- ---- one outcome and the children still to come

pub children_on : (p g c : ℕ) (m k : Topology) (cs : List ℕ) → Settling c m k → Child p g c m → Children p g m cs
    → Without c cs → Children p g k cs
children_on p g c m k cs o C = each_both (λ d. settling_child p g c d m k o C) cs

waits_on : (p g c x : ℕ) (m k : Topology) (cs : List ℕ) → Manifold m → Settling c m k → Child p g c m
    → Children p g m cs → Without c cs → x < m.triangles → Met x m cs
    → Met x k cs × (generation k x ≡ generation m x)
waits_on p g c x m k [] F o C D w l e = absurd e
waits_on p g c x m k (d ∷ cs) F o C D w l (inl e) =
    let q = settling_waits p g c d x m k F o C D.0 w.0 l e in
    (inl q.0, q.1)
waits_on p g c x m k (d ∷ cs) F o C D w l (inr e) =
    let q = waits_on p g c x m k cs F o C D.1 w.1 l e in
    (inr q.0, q.1)

met_back : (p g c x : ℕ) (m k : Topology) (cs : List ℕ) → Settling c m k → Child p g c m → Children p g m cs
    → Without c cs → generation k x % 2 ≡ 1 → Met x k cs → Met x m cs
met_back p g c x m k cs o C D w i =
    some_with (λ (d : ℕ) (K : Child p g d m × (d ≢ c)). settling_meets p g c d x m k o C K.0 K.1 i) cs
    (each_both (λ d K ne. (K, ne)) cs D w)

-- ---- all of them

pub settled_manifold : {cs : List ℕ} {m n : Topology} → Settled cs m n → Manifold m → Manifold n
settled_manifold done F = F
settled_manifold (then {c = c} {m = m} {k = k} o s) F = settled_manifold s (settling_manifold c m k F o)

same_on : (m k n : Topology) → Same m k → Same k n → Same m n
same_on m k n a b = record {
  vertices = b.vertices ∙ a.vertices;
  triangles = b.triangles ∙ a.triangles;
  corners = b.corners ∙ a.corners;
  links = b.links ∙ a.links;
  generations = b.generations ∙ a.generations;
}

pub settled_same : {cs : List ℕ} {m n : Topology} → Settled cs m n → Same m n
settled_same (done {m = m}) = same_all m
settled_same (then {c = c} {m = m} {k = k} {n = n} o s) = same_on m k n (settling_same c m k o) (settled_same s)

pub settled_boundary : {cs : List ℕ} {m n : Topology} → Settled cs m n → Manifold m → boundary_sides n ≡ boundary_sides m
settled_boundary done F = refl
settled_boundary (then {c = c} {m = m} {k = k} o s) F =
    settled_boundary s (settling_manifold c m k F o) ∙ settling_boundary c m k F o

pub settled_bases : (p g : ℕ) {cs : List ℕ} {m n : Topology} → Settled cs m n → Manifold m → Children p g m cs
    → Distinct cs → BasesMeetIn (Among cs) m → BasesMeetIn nowhere n
settled_bases p g done F K D C = C
settled_bases p g (then {c = c} {cs = cs} {m = m} {k = k} o s) F K D C =
    settled_bases p g s (settling_manifold c m k F o) (children_on p g c m k cs o K.0 K.1 D.0) D.1
    (settling_bases p g c (Among cs) m k F K.0 o C)

pub settled_past : {cs : List ℕ} {m n : Topology} (b : ℕ) → Settled cs m n → m.triangles ≤ b → Past b m n
settled_past b (done {m = m}) i = past_same b m
settled_past b (then {c = c} {m = m} {k = k} o s) i =
    past_on (settling_past c b m k o i) (settled_past b s (omega (arith, (settling_same c m k o).triangles)))

-- A triangle of another generation is left.
generation_on : (p g c x : ℕ) (m k n : Topology) → Child p g c m → Settling c m k → generation m x ≢ g
    → (generation k x ≢ g → generation n x ≡ generation k x) → generation n x ≡ generation m x
generation_on p g c x m k n C o e ih =
    let a : generation k x ≡ generation m x = settling_generation c x m k o (λ q. e (q ∙ C.generations)) in
    ih (λ q. e (sym a ∙ q)) ∙ a

pub settled_generation : (p g x : ℕ) {cs : List ℕ} {m n : Topology} → Settled cs m n → Children p g m cs
    → Distinct cs → generation m x ≢ g → generation n x ≡ generation m x
settled_generation p g x done K D e = refl
settled_generation p g x (then {c = c} {cs = cs} {m = m} {k = k} {n = n} o s) K D e =
    generation_on p g c x m k n K.0 o e
    (settled_generation p g x s (children_on p g c m k cs o K.0 K.1 D.0) D.1)

-- A generation stays, or is one above the children's.
spread_on : (p g c x : ℕ) (m k n : Topology) → Child p g c m → Settling c m k
    → (generation n x ≡ generation k x) ⊎ (generation n x ≡ suc g)
    → (generation n x ≡ generation m x) ⊎ (generation n x ≡ suc g)
spread_on p g c x m k n C o (inr e) = inr e
spread_on p g c x m k n C o (inl e) = go (settling_spread c x m k o)
  where
    go : (generation k x ≡ generation m x) ⊎ (generation k x ≡ suc (generation m c))
        → (generation n x ≡ generation m x) ⊎ (generation n x ≡ suc g)
    go (inl a) = inl (e ∙ a)
    go (inr a) = inr (e ∙ a ∙ ap suc C.generations)

pub settled_spread : (p g x : ℕ) {cs : List ℕ} {m n : Topology} → Settled cs m n → Children p g m cs → Distinct cs
    → (generation n x ≡ generation m x) ⊎ (generation n x ≡ suc g)
settled_spread p g x done K D = inl refl
settled_spread p g x (then {c = c} {cs = cs} {m = m} {k = k} {n = n} o s) K D =
    spread_on p g c x m k n K.0 o (settled_spread p g x s (children_on p g c m k cs o K.0 K.1 D.0) D.1)

-- A base that meets a child's base is flipped.
even_ne : (g x y : ℕ) → g % 2 ≡ 1 → x % 2 ≡ 1 → y ≡ suc x → y ≢ g
even_ne g x y a b c d = omega arith

turns_on : (p g c x : ℕ) (m k n : Topology) (cs : List ℕ) → Manifold m → Child p g c m → Children p g m cs
    → Without c cs → Settling c m k → x < m.triangles → generation m x % 2 ≡ 1
    → (generation k x ≢ g → generation n x ≡ generation k x)
    → (x < k.triangles → generation k x % 2 ≡ 1 → Met x k cs → generation n x ≡ suc (generation k x))
    → Met x m (c ∷ cs) → generation n x ≡ suc (generation m x)
turns_on p g c x m k n cs F C D w o l i rest ih (inl e) =
    let a : generation k x ≡ suc (generation m x) = settling_flips p g c x m k o C e i in
    rest (even_ne g (generation m x) (generation k x) C.odd i a) ∙ a
turns_on p g c x m k n cs F C D w o l i rest ih (inr e) =
    let q = waits_on p g c x m k cs F o C D w l e in
    ih (omega (arith, (settling_same c m k o).triangles)) (ap (λ (y : ℕ). y % 2) q.1 ∙ i) q.0 ∙ ap suc q.1

pub settled_flips : (p g x : ℕ) {cs : List ℕ} {m n : Topology} → Settled cs m n → Manifold m → Children p g m cs
    → Distinct cs → x < m.triangles → generation m x % 2 ≡ 1 → Met x m cs
    → generation n x ≡ suc (generation m x)
settled_flips p g x done F K D l i e = absurd e
settled_flips p g x (then {c = c} {cs = cs} {m = m} {k = k} {n = n} o s) F K D l i e =
    turns_on p g c x m k n cs F K.0 K.1 D.0 o l i
    (settled_generation p g x s (children_on p g c m k cs o K.0 K.1 D.0) D.1)
    (settled_flips p g x s (settling_manifold c m k F o) (children_on p g c m k cs o K.0 K.1 D.0) D.1) e

-- Nothing else is flipped.
settling_moves : (c x : ℕ) (m k : Topology) → Settling c m k
    → (generation k x ≡ generation m x) ⊎ ((x ≡ c) ⊎ (link m (3 * c) ≡ 3 * x))
settling_moves c x m k (kept y) = inl refl
settling_moves c x m k (flipped u B S) = go (ℕ_discrete x c) (ℕ_discrete x u)
  where
    go : Dec (x ≡ c) → Dec (x ≡ u) → (generation k x ≡ generation m x) ⊎ ((x ≡ c) ⊎ (link m (3 * c) ≡ 3 * x))
    go (yes e) d = inr (inl e)
    go (no e) (yes f) = inr (inr (B.meet ∙ ap (λ (y : ℕ). 3 * y) (sym f)))
    go (no e) (no f) = inl (S.generations x e f)

moved_on : (p g c x : ℕ) (m k n : Topology) (cs : List ℕ) → Child p g c m → Children p g m cs → Without c cs
    → Settling c m k → generation m x % 2 ≡ 1
    → (generation n x ≢ generation k x → generation k x % 2 ≡ 1 → Among cs x ⊎ Met x k cs)
    → generation n x ≢ generation m x → Among (c ∷ cs) x ⊎ Met x m (c ∷ cs)
moved_on p g c x m k n cs C D w o i ih ne = go (settling_moves c x m k o)
  where
    later : generation k x % 2 ≡ 1 → Among cs x ⊎ Met x k cs → Among (c ∷ cs) x ⊎ Met x m (c ∷ cs)
    later j (inl a) = inl (inr a)
    later j (inr a) = inr (inr (met_back p g c x m k cs o C D w j a))

    go : (generation k x ≡ generation m x) ⊎ ((x ≡ c) ⊎ (link m (3 * c) ≡ 3 * x)) → Among (c ∷ cs) x ⊎ Met x m (c ∷ cs)
    go (inr (inl e)) = inl (inl e)
    go (inr (inr e)) = inr (inl e)
    go (inl e) =
        let j : generation k x % 2 ≡ 1 = ap (λ (y : ℕ). y % 2) e ∙ i in
        later j (ih (λ q. ne (q ∙ e)) j)

pub settled_moved : (p g x : ℕ) {cs : List ℕ} {m n : Topology} → Settled cs m n → Children p g m cs → Distinct cs
    → generation n x ≢ generation m x → generation m x % 2 ≡ 1 → Among cs x ⊎ Met x m cs
settled_moved p g x done K D ne i = absurd (ne refl)
settled_moved p g x (then {c = c} {cs = cs} {m = m} {k = k} {n = n} o s) K D ne i =
    moved_on p g c x m k n cs K.0 K.1 D.0 o i
    (settled_moved p g x s (children_on p g c m k cs o K.0 K.1 D.0) D.1) ne

follow_on : (p g c x t : ℕ) (m k n : Topology) → Manifold m → Child p g c m → Settling c m k → x < m.triangles
    → generation m x ≢ g → Follow x t m
    → (x < k.triangles → generation k x ≢ g → Follow x t k → Follow x t n) → Follow x t n
follow_on p g c x t m k n F C o l e f ih =
    let a : generation k x ≡ generation m x = settling_generation c x m k o (λ q. e (q ∙ C.generations)) in
    ih (omega (arith, (settling_same c m k o).triangles)) (λ q. e (sym a ∙ q))
    (settling_follow c x t m k F o l (λ q. e (q ∙ C.generations)) f)

pub settled_follow : (p g x t : ℕ) {cs : List ℕ} {m n : Topology} → Settled cs m n → Manifold m → Children p g m cs
    → Distinct cs → x < m.triangles → generation m x ≢ g → Follow x t m → Follow x t n
settled_follow p g x t done F K D l e f = f
settled_follow p g x t (then {c = c} {cs = cs} {m = m} {k = k} {n = n} o s) F K D l e f =
    follow_on p g c x t m k n F K.0 o l e f
    (settled_follow p g x t s (settling_manifold c m k F o) (children_on p g c m k cs o K.0 K.1 D.0) D.1)

-- ---- what is not written: a triangle whose generation has not changed

-- It is none whose generation has.
pub unchanged_not : (m n : Topology) {x c : ℕ} → generation n c ≢ generation m c → generation n x ≡ generation m x
    → x ≢ c
unchanged_not m n w e q = w (subst (λ (y : ℕ). generation n y ≡ generation m y) q e)

pub still_all : (m : Topology) → Still m m
still_all m = record {
  grows = omega arith;
  mono = λ x l. omega arith;
  corners = λ h l e. refl;
  links = λ h l e f. refl;
  shift = λ h l e. inl refl;
  follows = follows_none m;
}

pub still_on : (m k n : Topology) → Still m k → Still k n → Still m n
still_on m k n A B = record {
  grows = omega (arith, A.grows, B.grows);
  mono = λ x l. let g = A.grows in omega (arith, A.mono x l, B.mono x (omega arith));
  corners = λ h l e.
      let g = A.grows in
      B.corners h (omega arith) (late (h / 3) (omega arith) e) ∙ A.corners h l (early (h / 3) (omega arith) e);
  links = λ h l e f. go h l e f;
  shift = λ h l e.
      let g = A.grows in
      moves h (A.shift h l (early (h / 3) (omega arith) e))
      (B.shift h (omega arith) (late (h / 3) (omega arith) e));
  follows = follows_on A.grows (λ x l e. (early x l e, late x l e)) A.follows B.follows;
}
  where
    early_written : (y : ℕ) → Dec (m.triangles ≤ y) → Written m k y → Written m n y
    early_written y (yes e) w = inl e
    early_written y (no e) (inl w) = inl w
    early_written y (no e) (inr w) =
        let g = A.grows in
        inr (λ q. w (omega (arith, A.mono y (omega arith), B.mono y (omega arith))))

    late_written : (y : ℕ) → Dec (m.triangles ≤ y) → Written k n y → Written m n y
    late_written y (yes e) w = inl e
    late_written y (no e) (inl w) = inl (omega (arith, A.grows))
    late_written y (no e) (inr w) =
        let g = A.grows in
        inr (λ q. w (omega (arith, A.mono y (omega arith), B.mono y (omega arith))))

    moves : (h : ℕ) → (link k h ≡ link m h) ⊎ Written m k (link k h / 3)
        → (link n h ≡ link k h) ⊎ Written k n (link n h / 3) → (link n h ≡ link m h) ⊎ Written m n (link n h / 3)
    moves h a (inr b) = inr (late_written (link n h / 3) (dec_le m.triangles (link n h / 3)) b)
    moves h (inl a) (inl b) = inl (b ∙ a)
    moves h (inr a) (inl b) =
        inr
        (subst (λ (y : ℕ). Written m n (y / 3)) (sym b)
        (early_written (link k h / 3) (dec_le m.triangles (link k h / 3)) a))

    early : (x : ℕ) → x < m.triangles → generation n x ≡ generation m x → generation k x ≡ generation m x
    early x l e = let g = A.grows in omega (arith, A.mono x l, B.mono x (omega arith))

    late : (x : ℕ) → x < m.triangles → generation n x ≡ generation m x → generation n x ≡ generation k x
    late x l e = let g = A.grows in omega (arith, A.mono x l, B.mono x (omega arith))

    go : (h : ℕ) → h < sides m → generation n (h / 3) ≡ generation m (h / 3)
        → (link m h ≡ boundary) ⊎ ((link m h < sides m) × (generation n (link m h / 3) ≡ generation m (link m h / 3)))
        → link n h ≡ link m h
    go h l e (inl f) =
        let a : link k h ≡ link m h = A.links h l (early (h / 3) (omega arith) e) (inl f) in
        let g = A.grows in
        B.links h (omega arith) (late (h / 3) (omega arith) e) (inl (a ∙ f)) ∙ a
    go h l e (inr f) =
        let i : link m h < sides m = f.0 in
        let a : link k h ≡ link m h =
        A.links h l (early (h / 3) (omega arith) e) (inr (i, early (link m h / 3) (omega arith) f.1)) in
        let g = A.grows in
        B.links h (omega arith) (late (h / 3) (omega arith) e)
        (inr (
          omega arith,
          subst (λ (y : ℕ). generation n (y / 3) ≡ generation k (y / 3)) (sym a)
              (late (link m h / 3) (omega arith) f.1),
        ))
        ∙ a

pub settling_still : (c : ℕ) (m n : Topology) → Manifold m → Settling c m n → Still m n
settling_still c m n F (kept x) = still_all m
settling_still c m n F (flipped u B S) = record {
  grows = omega (arith, S.triangles);
  mono = λ x l. up x (ℕ_discrete x c) (ℕ_discrete x u);
  corners = λ h l e. S.corners h (not_c (h / 3) e) (not_u (h / 3) e);
  links = λ h l e f.
      let d = away h f in
      S.links h l (not_c (h / 3) e) (not_u (h / 3) e)
      ∙ flip_name_else c u (link m h) (omega arith) (omega arith);
  shift = λ h l e.
      slide h (S.links h l (not_c (h / 3) e) (not_u (h / 3) e));
  follows = follows_one (flips c u) (B.use_s, B.use_u, B.meet, B.odd, B.same) S.makes
      (λ h l e. S.links h l (not_c (h / 3) e) (not_u (h / 3) e));
}
  where
    to_slot : (h x : ℕ) → link n h ≡ 3 * x → generation n x ≢ generation m x
        → (link n h ≡ link m h) ⊎ Written m n (link n h / 3)
    to_slot h x e w =
        let q : link n h / 3 ≡ x = omega arith in
        inr (inr (λ z. w (subst (λ (y : ℕ). generation n y ≡ generation m y) q z)))

    slide : (h : ℕ) → link n h ≡ flip_name c u (link m h)
        → (link n h ≡ link m h) ⊎ Written m n (link n h / 3)
    slide h =
        by_flip_name c u (λ z. link n h ≡ z → (link n h ≡ link m h) ⊎ Written m n (link n h / 3)) B.differ (link m h)
        (λ _ e. to_slot h u e (λ z. omega (arith, S.generation_u, B.same)))
        (λ _ e. to_slot h c e (λ z. omega (arith, S.generation_s)))
        (λ _ _ e. inl e)

    up : (x : ℕ) → Dec (x ≡ c) → Dec (x ≡ u) → generation m x ≤ generation n x
    up x (yes e) d = rw e (omega (arith, S.generation_s))
    up x (no e) (yes f) = rw f (omega (arith, S.generation_u, B.same))
    up x (no e) (no f) = omega (arith, S.generations x e f)

    not_c : (x : ℕ) → generation n x ≡ generation m x → x ≢ c
    not_c x = unchanged_not m n (λ z. omega (arith, S.generation_s))

    not_u : (x : ℕ) → generation n x ≡ generation m x → x ≢ u
    not_u x = unchanged_not m n (λ z. omega (arith, S.generation_u, B.same))

    away : (h : ℕ)
        → (link m h ≡ boundary) ⊎ ((link m h < sides m) × (generation n (link m h / 3) ≡ generation m (link m h / 3)))
        → (link m h / 3 ≢ c) × (link m h / 3 ≢ u)
    away h (inl e) =
        (omega (arith, F.slots, F.generation_room, B.use_s), omega (arith, F.slots, F.generation_room, B.use_u))
    away h (inr e) = (not_c (link m h / 3) e.1, not_u (link m h / 3) e.1)

pub settled_still : {cs : List ℕ} {m n : Topology} → Settled cs m n → Manifold m → Still m n
settled_still (done {m = m}) F = still_all m
settled_still (then {c = c} {m = m} {k = k} {n = n} o s) F =
    still_on m k n (settling_still c m k F o) (settled_still s (settling_manifold c m k F o))

-- ---- new corners

-- Triangle x has a corner that is not among the first p vertices.
abbrev pub NewCorner : ℕ → Topology → ℕ → Type 0
NewCorner p m x = (h : ℕ) × (h / 3 ≡ x) × (p ≤ origin m h)

-- A flip gives the new corner of the child to both triangles.
new_corner_on : (p g c x : ℕ) (m k n : Topology) → Child p g c m → Settling c m k
    → (generation n x ≡ generation m x → NewCorner p m x) → generation n x ≡ generation k x → NewCorner p k x
new_corner_on p g c x m k n C (kept y) f e = f e
new_corner_on p g c x m k n C (flipped u B S) f e = go (ℕ_discrete x c) (ℕ_discrete x u)
  where
    go : Dec (x ≡ c) → Dec (x ≡ u) → NewCorner p k x
    go (yes q) d = (3 * c + 2, omega arith, omega (arith, S.corners_s.2, C.fresh))
    go (no q) (yes r) = (3 * u + 1, omega arith, omega (arith, S.corners_u.1, C.fresh))
    go (no q) (no r) =
        let (h, i, j) = f (e ∙ S.generations x q r) in
        (h, i, omega (arith, S.corners h (omega arith) (omega arith)))

pub settled_new_corner : (p g x : ℕ) {cs : List ℕ} {m n : Topology} → Settled cs m n → Children p g m cs → Distinct cs
    → (generation n x ≡ generation m x → NewCorner p m x) → NewCorner p n x
settled_new_corner p g x done K D f = f refl
settled_new_corner p g x (then {c = c} {cs = cs} {m = m} {k = k} {n = n} o s) K D f =
    settled_new_corner p g x s (children_on p g c m k cs o K.0 K.1 D.0) D.1
    (new_corner_on p g c x m k n K.0 o f)
