-- The parts of the windows, where one of them was written.
use Rattle.vcd_merge.proofs.Cited.{◌≡◌, ◌≢◌, ℕ, suc, ◌+◌, ◌-◌, ◌*◌, ◌/◌, ◌<◌, ◌≤◌, List, length, take, drop, slice_set, Option, Some, None, refl, sym, ap, ◌∙◌, arith, inl, inr, length-take, length-drop, get_or, slice_get-get_or, mul-le-mul_left, length-set, drop-take, take-put_mid_below, drop-put_mid, between-put_mid, cases_lt, put_mid, same_len_mid, AreParts, AreSeated, part, part_len, spot_at, All-set, Spot, IsSeated, Seat, get_other, get_set}

-- the windows of n inputs with this part at an index
abbrev pub lent : (n k : ℕ) → (xs ys : List ℕ) → List ℕ
lent n k xs ys = put_mid (k * part_len n xs) (k * part_len n xs + part_len n xs - k * part_len n xs) xs ys

-- a part ends where the next begins
pub part_ends : (len n place : ℕ) → place < n → place * len + len ≤ n * len
part_ends len n place h = let m = mul-le-mul_left {m = suc place} {n = n} len h in omega arith

pub part_before : (len j place : ℕ) → j < place → j * len + len ≤ place * len
part_before len j place h = part_ends len place j h

-- the written part, and the others
module _ (len n place : ℕ) (xs ys : List ℕ) (all : n * len ≡ length xs) (within : place < n) (same : length ys ≡ len) where
  pub part_put : part len place (put_mid (place * len) (place * len + len - place * len) xs ys) ≡ ys
  part_put =
      let e = part_ends len n place within in
      let k : len ≡ place * len + len - place * len = omega arith in
      ap (λ m. take m (drop (place * len) (put_mid (place * len) (place * len + len - place * len) xs ys))) k
      ∙ between-put_mid (place * len) (place * len + len - place * len) xs ys (place * len + len) (omega arith) (omega arith)

  pub part_other : (j : ℕ) → j ≢ place → part len j (put_mid (place * len) (place * len + len - place * len) xs ys) ≡ part len j xs
  part_other j other =
      let e = part_ends len n place within in
      elim (cases_lt j place) [
        | inl below ↦
            let b = part_before len j place below in
            sym (drop-take (j * len) len (put_mid (place * len) (place * len + len - place * len) xs ys))
            ∙ ap (drop (j * len)) (take-put_mid_below (place * len) (place * len + len - place * len) xs ys (j * len + len) b (omega arith))
            ∙ drop-take (j * len) len xs
        | inr above ↦
            let b = part_before len place j (omega arith) in
            ap (take len) (drop-put_mid (place * len) (place * len + len - place * len) xs ys (j * len) (omega arith) (omega arith) (omega arith))
      ]

  pub len_put : length (put_mid (place * len) (place * len + len - place * len) xs ys) ≡ length xs
  len_put =
      let e = part_ends len n place within in
      same_len_mid (place * len) (place * len + len - place * len) xs ys (omega (arith, length-take (place * len + len - place * len) (drop (place * len) xs), length-drop (place * len) xs))

-- the length of a part that is lent
pub lent_len : (len n place : ℕ) (xs : List ℕ) → n * len ≡ length xs → place < n → length (take (place * len + len - place * len) (drop (place * len) xs)) ≡ len
lent_len len n place xs all within = let e = part_ends len n place within in omega (arith, length-take (place * len + len - place * len) (drop (place * len) xs), length-drop (place * len) xs)

pub part_long : (len n place : ℕ) (xs : List ℕ) → n * len ≡ length xs → place < n → length (part len place xs) ≡ len
part_long len n place xs all within = let e = part_ends len n place within in omega (arith, length-take len (drop (place * len) xs), length-drop (place * len) xs)

-- parts of as many windows of the same length are as long
pub same_part : (n n' : ℕ) (xs xs' : List ℕ) → n' ≡ n → length xs' ≡ length xs → part_len n' xs' ≡ part_len n xs
same_part n n' xs xs' e l = ap (λ m. m / n') l ∙ ap (λ m. length xs / m) e

pub none_is : {A : Type 0} (x : A) → None ≡ Some x → ⊥
none_is x e = cc

-- windows of the same lengths are parted alike
pub parts_same : (n m : ℕ) (c c' t t' v v' : List ℕ) → AreParts n c t v → m ≡ n → length c' ≡ length c → length t' ≡ length t → length v' ≡ length v → AreParts m c' t' v'
parts_same n m c c' t t' v v' p same lc lt lv = record {
  chunks_are = rw (same, lc) p.chunks_are;
  tokens_are = rw (same, lt) p.tokens_are;
  values_are = lv ∙ p.values_are ∙ sym lt;
  chunk_some = rw (same, lc) p.chunk_some;
  token_some = rw (same, lt) p.token_some;
}

-- ---- spots

part_of_some : (len place : ℕ) (xs : List ℕ) → take (place * len + len - place * len) (drop (place * len) xs) ≡ part len place xs
part_of_some len place xs = let k : place * len + len - place * len ≡ len = omega arith in ap (λ m. take m (drop (place * len) xs)) k

module _ {X : Type 0} (rest : X → Option (List ℕ)) (seats : List Seat) (sources : List X) (chunks tokens : List ℕ) (k : ℕ) where
  -- what the spot of an input is made of, as its parts are lent
  pub spot_lent : (s : Spot) (x : X) (d : Seat) → spot_at rest seats sources chunks tokens k ≡ Some s → k < length seats → k < length sources → x ≡ get_or sources k x
      → s ≡ record {
        seat = get_or seats k d;
        rest = rest (get_or sources k x);
        chunk = take (k * part_len (length seats) chunks + part_len (length seats) chunks - k * part_len (length seats) chunks) (drop (k * part_len (length seats) chunks) chunks);
        token = take (k * part_len (length seats) tokens + part_len (length seats) tokens - k * part_len (length seats) tokens) (drop (k * part_len (length seats) tokens) tokens);
      }
  spot_lent s x d at h1 h2 is =
      let a = slice_get-get_or seats k d h1 in
      let b = slice_get-get_or sources k x h2 in
      let e : spot_at rest seats sources chunks tokens k ≡ Some (record {
        seat = get_or seats k d;
        rest = rest x;
        chunk = part
            (part_len (length seats) chunks) k chunks;
        token = part (part_len (length seats) tokens) k tokens;
      }) = rw (a, b, sym is) refl in
      let same : s ≡ record {
        seat = get_or seats k d;
        rest = rest x;
        chunk = part (part_len (length seats) chunks) k chunks;
        token = part
            (part_len (length seats) tokens) k tokens;
      } = cc (sym at ∙ e) in
      rw (part_of_some (part_len (length seats) chunks) k chunks, part_of_some (part_len (length seats) tokens) k tokens, sym is) same

-- an input is there, and these are as long as its parts
pub record AreOwn {X : Type 0} (seats : List Seat) (sources : List X) (chunks tokens : List ℕ) (k : ℕ) (cs ts : List ℕ) : Type 0 where
  pub in_seats : k < length seats
  pub in_sources : k < length sources
  pub chunks_are : length seats * part_len (length seats) chunks ≡ length chunks
  pub tokens_are : length seats * part_len (length seats) tokens ≡ length tokens
  pub chunk : length cs ≡ part_len (length seats) chunks
  pub token : length ts ≡ part_len (length seats) tokens

module _ {X : Type 0} {seats : List Seat} {sources : List X} {chunks tokens : List ℕ} {k : ℕ} {cs ts : List ℕ} (own : AreOwn seats sources chunks tokens k cs ts) (s' : Seat) (x' : X) where
  pub len_chunks : length (lent (length seats) k chunks cs) ≡ length chunks
  len_chunks = len_put (part_len (length seats) chunks) (length seats) k chunks cs own.chunks_are own.in_seats own.chunk

  pub len_tokens : length (lent (length seats) k tokens ts) ≡ length tokens
  len_tokens = len_put (part_len (length seats) tokens) (length seats) k tokens ts own.tokens_are own.in_seats own.token

  -- the spot of the input whose parts were written
  pub spot_put : (rest : X → Option (List ℕ)) → spot_at rest (slice_set seats k s') (slice_set sources k x') (lent (length seats) k chunks cs)
      (lent (length seats) k tokens ts) k ≡ Some (record { seat = s'; rest = rest x'; chunk = cs; token = ts })
  spot_put rest =
      let c = part_put (part_len (length seats) chunks) (length seats) k chunks cs own.chunks_are own.in_seats own.chunk in
      let t = part_put (part_len (length seats) tokens) (length seats) k tokens ts own.tokens_are own.in_seats own.token in
      rw (get_set seats k s' own.in_seats, get_set sources k x' own.in_sources, length-set seats k s', len_chunks, len_tokens, c, t) refl

  -- and those of the others
  pub spot_other : (rest : X → Option (List ℕ)) (j : ℕ) → j ≢ k
      → spot_at rest (slice_set seats k s') (slice_set sources k x') (lent (length seats) k chunks cs) (lent (length seats) k tokens ts) j
      ≡ spot_at rest seats sources chunks tokens j
  spot_other rest j other =
      let c = part_other (part_len (length seats) chunks) (length seats) k chunks cs own.chunks_are own.in_seats own.chunk j other in
      let t = part_other (part_len (length seats) tokens) (length seats) k tokens ts own.tokens_are own.in_seats own.token j other in
      rw (get_other seats k j s' other, get_other sources k j x' other, length-set seats k s', len_chunks, len_tokens, c, t) refl

  -- what holds of all seats holds once one was set
  pub seated_put : IsSeated (part_len (length seats) chunks) (part_len (length seats) tokens) s' → AreSeated chunks tokens seats
      → AreSeated (lent (length seats) k chunks cs) (lent (length seats) k tokens ts) (slice_set seats k s')
  seated_put seated all =
      let set = All-set (IsSeated (part_len (length seats) chunks) (part_len (length seats) tokens)) seats k s' seated all in
      let c = same_part (length seats) (length (slice_set seats k s')) chunks (lent (length seats) k chunks cs) (length-set seats k s') len_chunks in
      let t = same_part (length seats) (length (slice_set seats k s')) tokens (lent (length seats) k tokens ts) (length-set seats k s') len_tokens in
      rw (c, t) set
