-- Requests that come in several reads, each but the last of whole requests, are answered as if they came in one.
use Rattle.std.proofs.Common.{ℕ, zero, suc, ◌+◌, ◌-◌, ◌*◌, ◌/◌, ◌%◌, ◌^◌, ◌≤◌, ◌<◌, arith, List, [], ◌++◌}
use Rattle.std.proofs.Common.{◌≡◌, refl, sym, ap, ◌∙◌, length}
use Rattle.std.proofs.Math.ListN.{get_or, length-append, get_or-append}
use Rattle.std.proofs.lemmas.List.{get_or-append-add}
use Rattle.rules.specs.Calls.{Outcome, refine_call}
use Rattle.rules.specs.Numbers.{number_at}
use Rattle.rules.specs.Tables.{Mesh}
use Rattle.tables.specs.declared.Worked.{Worked}
use Rattle.refine.specs.Requests.{store_mesh, store_outcome, after_requests, after_bytes, AllAnswered}
use Rattle.refine.specs.declared.Store.{Store}
use Rattle.std.proofs.Math.Nat.{mul-zero}

number_before : (xs ys : List ℕ) (i : ℕ) → i + 4 ≤ length xs → number_at (xs ++ ys) i ≡ number_at xs i
unfolding number_at
number_before xs ys i h =
    rw (
      get_or-append xs ys 0 i (omega arith),
      get_or-append xs ys 0 (i + 1) (omega arith),
      get_or-append xs ys 0 (i + 2) (omega arith),
      get_or-append xs ys 0 (i + 3) (omega arith),
    )
    refl

byte_after : (xs ys : List ℕ) (i k : ℕ) → k ≡ length xs + i → get_or (xs ++ ys) k 0 ≡ get_or ys i 0
byte_after xs ys i k e = ap (λ (j : ℕ). get_or (xs ++ ys) j 0) e ∙ get_or-append-add xs ys i 0

number_after : (xs ys : List ℕ) (i k : ℕ) → k ≡ length xs + i → number_at (xs ++ ys) k ≡ number_at ys i
unfolding number_at
number_after xs ys i k e =
    rw (
      byte_after xs ys i k e,
      byte_after xs ys (i + 1) (k + 1) (omega arith),
      byte_after xs ys (i + 2) (k + 2) (omega arith),
      byte_after xs ys (i + 3) (k + 3) (omega arith),
    )
    refl

same_request : {t t' : ℕ} {m m' : Mesh} → t ≡ t' → m ≡ m' → (refine_call t m).mesh ≡ (refine_call t' m').mesh
same_request et em = rw (et, em) refl

requests_before : (k : ℕ) (xs ys : List ℕ) (m : Mesh) → 4 * k ≤ length xs
    → after_requests k (xs ++ ys) m ≡ after_requests k xs m
unfolding after_requests
requests_before zero xs ys m h = refl
requests_before (suc k) xs ys m h =
    same_request (number_before xs ys (4 * k) (omega arith)) (requests_before k xs ys m (omega arith))

requests_after : (k n : ℕ) (xs ys : List ℕ) (m : Mesh) → length xs ≡ 4 * n
    → after_requests (n + k) (xs ++ ys) m ≡ after_requests k ys (after_requests n xs m)
unfolding after_requests
requests_after zero n xs ys m e =
    let z : n + zero ≡ n = omega arith in
    rw z (requests_before n xs ys m (omega arith))
requests_after (suc k) n xs ys m e =
    let s : n + suc k ≡ suc (n + k) = omega arith in
    rw s (same_request (number_after xs ys (4 * k) (4 * (n + k)) (omega arith)) (requests_after k n xs ys m e))

-- What the bytes of two reads make of a mesh, where the first brought whole requests.
bytes_after : (xs ys : List ℕ) (m : Mesh) → length xs % 4 ≡ 0
    → after_bytes (xs ++ ys) m ≡ after_bytes ys (after_bytes xs m)
unfolding after_bytes
bytes_after xs ys m e =
    let l = length-append xs ys in
    let q : length (xs ++ ys) / 4 ≡ length xs / 4 + length ys / 4 = omega arith in
    rw q (requests_after (length ys / 4) (length xs / 4) xs ys m (omega arith))

-- Less than a request is dropped.
pub rest_dropped : (bytes : List ℕ) (m : Mesh) → length bytes < 4 → after_bytes bytes m ≡ m
unfolding after_bytes after_requests
rest_dropped bytes m l = let q : length bytes / 4 ≡ 0 = omega arith in rw q refl

-- The first request is answered before those behind it.
pub first_answered : (request rest : List ℕ) {bytes : List ℕ} {t : ℕ} (before after : Store) {done : Worked}
    → bytes ≡ request ++ rest → length request ≡ 4 → t ≡ number_at request 0 → after.counts ≡ done.counts
    → store_outcome done after ≡ refine_call t (store_mesh before)
    → after_bytes rest (store_mesh after) ≡ after_bytes bytes (store_mesh before)
unfolding after_bytes after_requests
first_answered request rest before after e l n c o =
    let m = store_mesh before in
    let q : length request / 4 ≡ 1 = omega arith in
    let one : after_bytes request m ≡ (refine_call (number_at request 0) m).mesh = rw q refl in
    let a : store_mesh after ≡ (refine_call (number_at request 0) m).mesh =
    rw (c, ← n) (ap (λ (o : Outcome). o.mesh) o) in
    rw (a, e) (sym (bytes_after request rest m (omega arith) ∙ ap (after_bytes rest) one))

-- After `turns` reads that filled a buffer of `size` bytes, and one more, which brought `last`. The loop began when the
-- first read, which brought `first`, had led to the mesh `m₀`.
pub record Reading (size turns : ℕ) (first last : List ℕ) (m₀ m : Mesh) : Type 0 where
  pub earlier : List ℕ
  pub filled : length earlier ≡ size * turns
  pub whole : length earlier % 4 ≡ 0
  pub answered : (before : Mesh) → m₀ ≡ after_bytes first before → m ≡ after_bytes (earlier ++ last) before

pub reading_begins : {size turns : ℕ} {first : List ℕ} {m : Mesh} → turns ≡ 0 → Reading size turns first first m m
reading_begins e = record { earlier = []; filled = rw e (sym (mul-zero _)); whole = refl; answered = λ before h. h }

-- A read that follows one that filled the buffer.
pub reading_on : {size turns more : ℕ} {first last next : List ℕ} {m₀ m after : Mesh}
    → Reading size turns first last m₀ m → size % 4 ≡ 0 → length last ≡ size → more ≡ turns + 1
    → after ≡ after_bytes next m → Reading size more first next m₀ after
reading_on {size} {turns} {more} {first} {last} {next} {m₀} {m} {after} R s l e ea =
    let a = length-append R.earlier last in
    let w : length (R.earlier ++ last) % 4 ≡ 0 = omega (arith, a, R.whole) in
    record {
      earlier = R.earlier ++ last;
      filled = rw e (omega (arith, a, R.filled));
      whole = w;
      answered = λ before h.
          ea ∙ ap (after_bytes next) (R.answered before h) ∙ sym (bytes_after (R.earlier ++ last) next before w);
    }

-- The loop ends after a read that did not fill the buffer, or with no turns left.
pub reading_ends : {size n turns : ℕ} {first last : List ℕ} {m₀ m before : Mesh} → Reading size turns first last m₀ m
    → m₀ ≡ after_bytes first before → n ≡ size → length last ≤ n → (length last ≡ n → turns ≡ 2 ^ 64 - 1)
    → AllAnswered n last before m
reading_ends {turns = turns} R e q l ended =
    record {
      turns = turns;
      earlier = R.earlier;
      reads = record { filled = rw q R.filled; fits = l; ended = ended };
      answered = R.answered _ e;
    }
