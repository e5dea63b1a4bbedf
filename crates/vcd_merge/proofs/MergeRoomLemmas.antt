-- What a merge is lent counts at most the bound.
use Rattle.vcd_merge.proofs.Cited.{◌≡◌, ℕ, ◌+◌, ◌*◌, List, [], ◌∷◌, length, sym, subst, ap, arith, sum_by-cons, AllZip-long, AreAllWindows, AreViews, WindowSize, text_bytes, Header, bound_of_limit, merge_fits, is_view, ShowHeaders, shown, Head, SameLengths, part_len, MergeIsWithinBound, kept_in, kept_of, no_windows, windows_size, Windows}

-- ---- what is kept of heads

kept_more : (h : Head) (heads : List Head)
    → ((kept_in (h ∷ heads)).text ≡ (kept_of h).text + (kept_in heads).text)
    × ((kept_in (h ∷ heads)).rows ≡ (kept_of h).rows + (kept_in heads).rows)
    × ((kept_in (h ∷ heads)).codes ≡ (kept_of h).codes + (kept_in heads).codes)
    × ((kept_in (h ∷ heads)).index ≡ (kept_of h).index + (kept_in heads).index)
    × ((kept_in (h ∷ heads)).look_up ≡ (kept_of h).look_up + (kept_in heads).look_up)
kept_more h heads = (
  sum_by-cons (λ (x : Head). (kept_of x).text) h heads,
  sum_by-cons (λ (x : Head). (kept_of x).rows) h heads,
  sum_by-cons (λ (x : Head). (kept_of x).codes) h heads,
  sum_by-cons (λ (x : Head). (kept_of x).index) h heads,
  sum_by-cons (λ (x : Head). (kept_of x).look_up) h heads,
)

pub are_views : (heads : List Head) (hs : List Header) → ShowHeaders heads hs → AreViews hs (kept_in heads)
are_views [] [] show = record { text = omega arith; rows = omega arith; codes = omega arith; index = omega arith; look_up = omega arith }
are_views [] (h ∷ hs) show = absurd show
are_views (head ∷ heads) [] show = absurd show
are_views (head ∷ heads) (h ∷ hs) show =
    let (text, rows, codes, index, look_up) = kept_more head heads in
    let own = is_view (shown head) h show.0 in
    let others = are_views heads hs show.1 in
    let texts = sum_by-cons text_bytes h hs in
    let declared = sum_by-cons (λ (x : Header). length x.declarations) h hs in
    let coded = sum_by-cons (λ (x : Header). length x.codes) h hs in
    record {
      text = omega (arith, text, own.text, others.text, texts);
      rows = omega (arith, rows, own.rows, others.rows, declared);
      codes = omega (arith, codes, own.codes, others.codes, coded);
      index = omega (arith, index, own.index, others.index, coded);
      look_up = omega (arith, look_up, own.look_up, others.look_up, coded);
    }

-- ---- what a merge is lent

-- windows of as many inputs as there are heads
pub merge_within : (limit : ℕ) (heads : List Head) (w : WindowSize) → AreAllWindows limit (length heads) w → MergeIsWithinBound limit heads w
merge_within limit heads w are = λ hs show.
    let long = AllZip-long _ heads hs show in
    merge_fits limit hs w (kept_in heads) 0 (subst (λ n. AreAllWindows limit n w) (sym long) are) (are_views heads hs show) (omega arith)

-- windows whose tokens and values are as long as the limit says, and then none, whatever the limit
pub without_windows : (limit : ℕ) (heads : List Head) (w : WindowSize) → w.token ≡ length heads * limit → w.value ≡ w.token
    → MergeIsWithinBound limit heads w → (other : ℕ) → MergeIsWithinBound other heads no_windows
without_windows limit heads w token value within other = λ hs show.
    let long = ap (λ n. n * limit) (AllZip-long _ heads hs show) in
    omega (arith, within hs show, token, value, long, bound_of_limit limit hs, bound_of_limit other hs)

-- as many seats, the same heads and windows that are as long
pub still_within : (n n' : ℕ) (heads heads' : List Head) (w w' : Windows) → n' ≡ n → heads' ≡ heads → SameLengths w w'
    → MergeIsWithinBound (part_len n w.tokens.now) heads (windows_size w) → MergeIsWithinBound (part_len n' w'.tokens.now) heads' (windows_size w')
still_within n n' heads heads' w w' many same lengths within =
    rw (many, same, lengths.chunks, lengths.tokens, lengths.values) within
