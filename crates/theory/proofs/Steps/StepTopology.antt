-- Every triangle of one even generation refined in order: what the whole step does before it moves vertices.
use mathlib.Core.Path.{◌≡◌, refl, sym, ap, ◌∙◌, subst}
use mathlib.Core.Logic.{◌≢◌, ◌⊎◌, inl, inr}
use mathlib.Core.List.{List}
use Prim.Native.Nat.{ℕ, zero, suc, ◌+◌, ◌*◌, ◌/◌, ◌%◌, ◌≤◌, ◌<◌}
use native.Mathlib.Omega.{arith}
use native.Mathlib.Decide.{ℕ_discrete, dec_lt}
use lib.ListN.{length, get_or}
use lib.IntN.{ℤ, pos}
use Rattle.theory.proofs.Splits.Bases.{reached}
use Rattle.theory.proofs.Chains.Chain.{falls}
use Rattle.theory.proofs.Splits.Cut.{Spread}
use Rattle.theory.proofs.Splits.Edges.{boundary_sides, no_boundary}
use Rattle.theory.proofs.Splits.Splitting.{Room, face_positions, face_splitting}
use Rattle.theory.proofs.Links.Manifold.{Manifold, BasesMeetIn}
use Rattle.theory.proofs.Links.Past.{Past, past_same, past_on}
use Rattle.theory.proofs.Splits.Places.{Places, places_same, places_on}
use Rattle.theory.proofs.Chains.Raise.{raise_cuts}
use Rattle.theory.proofs.Chains.Runs.{split_even}
use Rattle.theory.proofs.Splits.Settled.{nowhere}
use Rattle.theory.proofs.Links.Sides.{put_at_lem}
use Rattle.rules.specs.Conditions.{is_even}
use Rattle.rules.specs.Promises.{odds}
use Rattle.rules.specs.Split.{Work, centre, face_split, refine}
use Rattle.rules.specs.Step.{refine_first}
use Rattle.rules.specs.Tables.{Topology, sides, origin, boundary, link, generation, coordinate}

-- After the first i slots, where all triangles were of generation g before.
pub record Midway (g i : ℕ) (d e : Work) : Type 0 where
  pub manifold : Manifold (reached e)
  pub bases_meet : BasesMeetIn nowhere (reached e)
  pub splits : e.splits ≡ d.splits + i
  pub odd : 2 * e.flips + odds (reached e) ≡ 2 * d.flips + odds (reached d) + 3 * i
  pub vertices : (reached e).vertices ≡ (reached d).vertices + i
  pub triangles : (reached e).triangles ≡ (reached d).triangles + 2 * i
  pub corners : length (reached e).corners ≡ length (reached d).corners
  pub links : length (reached e).links ≡ length (reached d).links
  pub generations : length (reached e).generations ≡ length (reached d).generations
  pub boundary_count : boundary_sides (reached e) ≡ boundary_sides (reached d)
  pub past : (b : ℕ) → (reached e).triangles ≤ b → Past b (reached d) (reached e)
  pub places : Places d.mesh e.mesh
  pub centres : (t k : ℕ) → t < i → k < 3 → coordinate e.mesh ((reached d).vertices + t) k ≡ centre d.mesh t k
  pub waiting : (x : ℕ) → i ≤ x → x < (reached d).triangles → generation (reached e) x ≡ g
  pub waiting_corners : (h : ℕ) → i ≤ h / 3 → h < sides (reached d) → origin (reached e) h ≡ origin (reached d) h
  pub ready : (x : ℕ) → x < (reached e).triangles → (x < i) ⊎ ((reached d).triangles ≤ x)
      → (generation (reached e) x ≡ suc g) ⊎ (generation (reached e) x ≡ suc (suc g))

-- A triangle is ready after the next split if it was, or if the split or a flip wrote it.
ready_on : (g i : ℕ) (d e n : Topology) (x : ℕ)
    → (x < e.triangles → (x < i) ⊎ (d.triangles ≤ x) → (generation e x ≡ suc g) ⊎ (generation e x ≡ suc (suc g)))
    → generation e i ≡ g → (x < suc i) ⊎ (d.triangles ≤ x)
    → Spread i (suc (generation e i)) e n x
    → (generation n x ≡ suc g) ⊎ (generation n x ≡ suc (suc g))
ready_on g i d e n x r q w (inr (inl z)) = inl (z ∙ ap suc q)
ready_on g i d e n x r q w (inr (inr z)) = inr (z ∙ ap (λ (y : ℕ). suc (suc y)) q)
ready_on g i d e n x r q w (inl z) = elim (r z.0 (less w)) [ inl y ↦ inl (z.2 ∙ y) | inr y ↦ inr (z.2 ∙ y) ]
  where
    less : (x < suc i) ⊎ (d.triangles ≤ x) → (x < i) ⊎ (d.triangles ≤ x)
    less (inl y) = let ne = z.1 in inl (omega arith)
    less (inr y) = inr y

module _ (g : ℕ) (even : g % 2 ≡ 0) (d : Work) (F : Manifold (reached d)) (K : BasesMeetIn nowhere (reached d))
    (G : (x : ℕ) → x < (reached d).triangles → generation (reached d) x ≡ g)
    (R : Room (reached d).triangles (reached d))
    (P : 3 * ((reached d).vertices + (reached d).triangles) ≤ length d.mesh.positions) where
  begin : Midway g 0 d d
  begin = record {
    manifold = F;
    bases_meet = K;
    splits = omega arith;
    odd = omega arith;
    vertices = omega arith;
    triangles = omega arith;
    corners = refl;
    links = refl;
    generations = refl;
    boundary_count = refl;
    past = λ b l. past_same b (reached d);
    places = places_same d.mesh;
    centres = λ t k i j. absurd (omega arith);
    waiting = λ x i l. G x l;
    waiting_corners = λ h i l. refl;
    ready = λ x l w. elim w [ inl q ↦ absurd (omega arith) | inr q ↦ absurd (omega arith) ];
  }

  pub room_at : (i : ℕ) (e : Work) → i < (reached d).triangles → Midway g i d e → Room 1 (reached e)
  room_at i e l M =
      let t = M.triangles in
      record {
        corners = omega (arith, R.corners, M.corners);
        links = omega (arith, R.links, M.links);
        generations = omega (arith, R.generations, M.generations);
      }

  -- The corners of a triangle still to come stand where they stood.
  pub centre_stays : (i k : ℕ) (e : Work) → i < (reached d).triangles → k < 3 → Midway g i d e
      → centre e.mesh i k ≡ centre d.mesh i k
  unfolding centre
  centre_stays i k e l j M = rw (at 0 (omega arith), at 1 (omega arith), at 2 (omega arith))
    where
      at : (n : ℕ) → n < 3
          → coordinate e.mesh (origin (reached e) (3 * i + n)) k
          ≡ coordinate d.mesh (origin (reached d) (3 * i + n)) k
      at n q =
          let c = F.corner (3 * i + n) (omega arith) in
          ap (λ (v : ℕ). coordinate e.mesh v k) (M.waiting_corners (3 * i + n) (omega arith) (omega arith))
          ∙ M.places.old (3 * origin (reached d) (3 * i + n) + k) (omega arith)

  centres_on : (i : ℕ) (e : Work) → i < (reached d).triangles → (M : Midway g i d e)
      → Places e.mesh (face_split i e).mesh
      → (t k : ℕ) → t < suc i → k < 3
      → coordinate (face_split i e).mesh ((reached d).vertices + t) k ≡ centre d.mesh t k
  centres_on i e l M Q t k j q = go (ℕ_discrete t i)
    where
      go : Dec (t ≡ i) → coordinate (face_split i e).mesh ((reached d).vertices + t) k ≡ centre d.mesh t k
      go (no n) =
          Q.old (3 * ((reached d).vertices + t) + k) (omega (arith, M.vertices)) ∙ M.centres t k (omega arith) q
      go (yes x) =
          let v : (reached d).vertices + t ≡ (reached e).vertices = omega (arith, M.vertices) in
          let r : 3 * (reached e).vertices + 3 ≤ length e.mesh.positions =
          omega (arith, P, M.vertices, M.places.size) in
          ap (λ (u : ℕ). coordinate (face_split i e).mesh u k) v
          ∙ ap (λ (p : List ℤ). get_or p (3 * (reached e).vertices + k) (pos 0)) (face_positions i e)
          ∙ put_at_lem e.mesh.positions (reached e).vertices (centre e.mesh i) (pos 0) r k q
          ∙ centre_stays i k e l q M
          ∙ ap (λ (u : ℕ). centre d.mesh u k) (sym x)

  further : (i : ℕ) (e : Work) → i < (reached d).triangles → Midway g i d e → Midway g (suc i) d (face_split i e)
  further i e l M =
      let t = M.triangles in
      let gi : generation (reached e) i ≡ g = M.waiting i (omega arith) l in
      let X = face_splitting i e M.manifold (omega arith) (room_at i e l M) (omega arith) in
      let S = X.result in
      let stays : (x : ℕ) → suc i ≤ x → x < (reached d).triangles → generation (reached (face_split i e)) x
      ≡ generation (reached e) x =
      λ x j k. let a = M.waiting x (omega arith) k in S.keeps x (omega arith) (omega arith) (omega arith) in
      record {
        manifold = S.manifold;
        bases_meet = S.bases_meet M.bases_meet;
        splits = omega (arith, X.splits, M.splits);
        odd = omega (arith, X.odd, M.odd);
        vertices = omega (arith, S.vertices, M.vertices);
        triangles = omega (arith, S.triangles);
        corners = S.corners ∙ M.corners;
        links = S.links ∙ M.links;
        generations = S.generations ∙ M.generations;
        boundary_count = omega (arith, S.boundary_count, M.boundary_count);
        past = λ b j. past_on (M.past b (omega (arith, S.triangles))) (S.past b j);
        places = places_on M.places X.places;
        centres = centres_on i e l M X.places;
        waiting = λ x j k. stays x j k ∙ M.waiting x (omega arith) k;
        waiting_corners = λ h j k.
            S.still.corners h (omega arith) (stays (h / 3) j (omega arith)) ∙ M.waiting_corners h (omega arith) k;
        ready = λ x j w.
            ready_on g i (reached d) (reached e) (reached (face_split i e)) x (M.ready x) gi w (S.spread x j);
      }

  pub refine_even : (i : ℕ) (e : Work) → i < (reached d).triangles → Midway g i d e → refine i e ≡ face_split i e
  unfolding refine
  refine_even i e l M =
      let t = M.triangles in
      let gi : generation (reached e) i ≡ g = M.waiting i (omega arith) l in
      raise_cuts (generation (reached e) i) i e (is_even (omega arith)) M.manifold M.bases_meet (omega arith)
      (room_at i e l M)
      ∙ split_even i e (omega arith)

  pub refine_first_lem : (i : ℕ) → i ≤ (reached d).triangles → Midway g i d (refine_first i d)
  unfolding refine_first
  refine_first_lem zero l = begin
  refine_first_lem (suc i) l =
      let M = refine_first_lem i (omega arith) in
      subst (λ (w : Work). Midway g (suc i) d w) (sym (refine_even i (refine_first i d) l M))
      (further i (refine_first i d) l M)

  -- On a mesh without boundary every triangle ends two generations up: a child left odd would meet an even triangle
  -- of generation g.
  pub two_up : boundary_sides (reached d) ≡ 0 → (x : ℕ) → x < (reached (refine_first (reached d).triangles d)).triangles
      → generation (reached (refine_first (reached d).triangles d)) x ≡ suc (suc g)
  two_up none-there x l = go (M.ready x l (where_is x))
    where
      e : Topology
      e = reached (refine_first (reached d).triangles d)

      M : Midway g (reached d).triangles d (refine_first (reached d).triangles d)
      M = refine_first_lem (reached d).triangles (omega arith)

      where_is : (x : ℕ) → (x < (reached d).triangles) ⊎ ((reached d).triangles ≤ x)
      where_is x = elim (dec_lt x (reached d).triangles) [ yes q ↦ inl q | no q ↦ inr (omega arith) ]

      other : (u : ℕ) → (generation e u ≡ suc g) ⊎ (generation e u ≡ suc (suc g))
          → generation e u + (1 + generation e u % 2) ≡ suc g → ⊥
      other u (inl a) b = omega arith
      other u (inr a) b = omega arith

      go : (generation e x ≡ suc g) ⊎ (generation e x ≡ suc (suc g)) → generation e x ≡ suc (suc g)
      go (inr q) = q
      go (inl q) =
          let r : link e (3 * x) ≢ boundary = no_boundary e (M.boundary_count ∙ none-there) (3 * x) (omega arith) in
          let f = falls e M.manifold M.bases_meet x l (omega arith) r in
          let u : ℕ = link e (3 * x) / 3 in
          absurd (other u (M.ready u f.0 (where_is u)) (f.1 ∙ q))
