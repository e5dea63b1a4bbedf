-- What is written and what is pending, where text is due.
use Rattle.vcd_engine.proofs.Cited.{◌≡◌, ℕ, ◌+◌, ◌-◌, ◌≤◌, length, refl, List, [], ◌∷◌, ◌++◌, slice_range, Result, Ok, Err, sym, ap, ap₂, subst, ◌∙◌, append-nil, append_assoc, arith, take, drop, take-take, slice_index, Device, Puts, Writes, WritesSome, slice_range-append, both-written, counts-on, some-behind, some-first, Grows, GrowsSome, Appends, Ahead, HeadView, IsSpelledAs, bytes_without, line_without, one_byte, IsSection, TakesItem, ScannedItem, regs_after, Form, Item, Begin, Change, End, Finish, Time, Regs, IsNoTimestamp, GrowsBut, IsLine, IsNextItem, PutsAll, PutsBehind, PutsOn, IsPart, pending_in, PendingCopy, writes-none}

-- a part that begins where another ends
pub joined : (bytes : List ℕ) (a b from to : ℕ) → a ≤ b → from ≡ b → from ≤ to → slice_range bytes a b ++ slice_range bytes from to ≡ slice_range bytes a to
joined bytes a b from to le e on =
    let all : b + (to - b) ≡ to = omega (arith, e) in
    ap (λ n. slice_range bytes a b ++ slice_range bytes n to) e ∙ subst
    (λ n. slice_range bytes a b ++ slice_range bytes b n ≡ slice_range bytes a n) all (slice_range-append bytes a b (to - b) le)

-- the bytes before a line feed, and it
pub line_there : (bytes : List ℕ) (from to k : ℕ) → from + 2 + k ≤ to → to ≤ length bytes → slice_index bytes (to - 1) ≡ 10
    → bytes_without bytes from to k ≡ line_without bytes from to k
line_there bytes from to k few within last =
    let first = slice_range bytes from (from + 1) in
    let rest = slice_range bytes (from + 1 + k) (to - 1) in
    let all : to - 1 + 1 ≡ to = omega arith in
    let end : slice_range bytes (to - 1) (to - 1 + 1) ≡ 10 ∷ [] = one_byte bytes (to - 1) (omega arith) ∙ ap (λ b. b ∷ []) last in
    let both : rest ++ 10 ∷ [] ≡ slice_range bytes (from + 1 + k) to = ap (λ l. rest ++ l) (sym end)
    ∙ slice_range-append bytes (from + 1 + k) (to - 1) 1 (omega arith) ∙ ap (slice_range bytes (from + 1 + k)) all in
    ap (λ l. first ++ l) (sym both) ∙ sym (append_assoc first rest (10 ∷ []))

-- two bytes and a line feed
pub two_bytes_line : (bytes : List ℕ) (from to n : ℕ) → n ≡ 0 → to ≡ from + 3 → to ≤ length bytes
    → slice_index bytes from ∷ slice_index bytes (from + 1) ∷ 10 ∷ [] ≡ line_without bytes from to n
two_bytes_line bytes from to n none three within =
    let next : from + 1 + n ≡ from + 1 = omega (arith, none) in
    let last : to - 1 ≡ from + 1 + 1 = omega (arith, three) in
    let first = one_byte bytes from (omega (arith, three, within)) in
    let second = one_byte bytes (from + 1) (omega (arith, three, within)) in
    let rest : slice_range bytes (from + 1 + n) (to - 1) ≡ slice_index bytes (from + 1) ∷ [] = ap₂ (λ a b. slice_range bytes a b) next last ∙ second in
    sym (ap₂ (λ (a b : List ℕ). (a ++ b) ++ 10 ∷ []) first rest)

-- of which nothing is left
pub none_between : (bytes : List ℕ) (from to : ℕ) → to ≤ from → slice_range bytes from to ≡ []
none_between bytes from to e = let none : to - from ≡ 0 = omega arith in ap (λ n. take n (drop from bytes)) none

-- ---- what is pending

-- it begins the rest of these bytes
pub front_is : (bytes : List ℕ) (from to : ℕ) → to ≤ length bytes → take (to - from) (slice_range bytes from (length bytes)) ≡ slice_range bytes from to
front_is bytes from to le = take-take (to - from) (length bytes - from) (drop from bytes) (omega arith)

-- ---- one call

-- nothing is written, and what is pending grows
pub pending_on : (pending pending' due : List ℕ) (out : Device) → pending ++ due ≡ pending' → PutsAll pending pending' out out due
pending_on pending pending' due out e = ([], e, writes-none out)

-- nothing is due
pub none_on : (pending : List ℕ) (out : Device) → PutsAll pending pending out out []
none_on pending out = pending_on pending pending [] out (append-nil pending)

-- what was pending was written, and then nothing is pending; then this was put
pub put_on : {A E : Type 0} (pending pending' due : List ℕ) (out mid out' : Device) (r : Result A E) → Writes out mid pending → pending' ≡ []
    → Puts mid out' due r → PutsOn pending pending' out out' due r
put_on pending pending' due out mid out' (Ok v) w e puts = (pending ++ due, sym (ap (λ l. (pending ++ due) ++ l) e ∙ append-nil (pending ++ due)), both-written out mid out' pending due w puts)
put_on pending pending' due out mid out' (Err v) w e puts = some-behind out mid out' pending due w puts

-- what was pending was written, and what is due is pending
pub begun_on : (pending due : List ℕ) (out out' : Device) → Writes out out' pending → PutsAll pending due out out' due
begun_on pending due out out' w = (pending, refl, w)

-- ---- two calls

-- the first one failed
pub first_on : (pending a b : List ℕ) (out out' : Device) → WritesSome out out' (pending ++ a) → WritesSome out out' (pending ++ (a ++ b))
first_on pending a b out out' some = subst (WritesSome out out') (append_assoc pending a b) (some-first out out' (pending ++ a) b some)

-- one text is due, and then another
pub twice_on : {A E : Type 0} (pending mid pending' a b : List ℕ) (out between out' : Device) (r : Result A E) → PutsAll pending mid out between a
    → PutsOn mid pending' between out' b r → PutsOn pending pending' out out' (a ++ b) r
twice_on pending mid pending' a b out between out' (Ok w) first then = (
  first.0 ++ then.0,
  sym (append_assoc pending a b) ∙ ap (λ l. l ++ b) first.1 ∙ append_assoc first.0 mid b ∙ ap (λ l. first.0 ++ l) then.1
      ∙ sym (append_assoc first.0 then.0 pending'),
  both-written out between out' first.0 then.0 first.2 then.2,
)
twice_on pending mid pending' a b out between out' (Err f) first then =
    subst (WritesSome out out') (sym (append_assoc first.0 mid b) ∙ sym (ap (λ l. l ++ b) first.1) ∙ append_assoc pending a b) (some-behind out between out' first.0 (mid ++ b) first.2 then)

pub twice_behind : {A B E : Type 0} (bytes : List ℕ) (p q p' : PendingCopy) (a b : List ℕ) (out mid out' : Device) (v : B) (r : Result A E)
    → PutsBehind {A = B} {E = E} bytes p q out mid a (Ok v) → PutsBehind bytes q p' mid out' b r → PutsBehind bytes p p' out out' (a ++ b) r
twice_behind {A} {B} {E} bytes p q p' a b out mid out' v r first then = record {
  puts = twice_on (pending_in bytes p) (pending_in bytes q) (pending_in bytes p') a b out mid out' r first.puts then.puts;
  counts = counts-on out mid out' r first.counts then.counts;
  part = then.part;
}

-- ---- several calls, of which the text is some text with each item

module _ (out mid out' : Device) (pending text some : List ℕ) (g : GrowsBut out mid pending text some) where
  -- one more
  pub but_on : (pending' due more : List ℕ) → more ≡ some ++ due → PutsAll pending pending' mid out' due → GrowsBut out out' pending' text more
  but_on pending' due more is p = (
    g.0 ++ p.0,
    is ∙ ap (λ l. l ++ due) g.1 ∙ append_assoc text (g.0 ++ pending) due
        ∙ ap (λ l. text ++ l) (append_assoc g.0 pending due ∙ ap (λ l. g.0 ++ l) p.1 ∙ sym (append_assoc g.0 p.0 pending')),
    both-written out mid out' g.0 p.0 g.2 p.2,
  )

  -- a write failed
  pub but_failed : (due more : List ℕ) → more ≡ some ++ due → WritesSome mid out' (pending ++ due) → GrowsSome out out' text more
  but_failed due more is p = (
    g.0 ++ (pending ++ due),
    is ∙ ap (λ l. l ++ due) g.1 ∙ append_assoc text (g.0 ++ pending) due ∙ ap (λ l. text ++ l) (append_assoc g.0 pending due),
    some-behind out mid out' g.0 (pending ++ due) g.2 p,
  )

  -- what is pending was written
  pub but_written : Writes mid out' pending → Grows out out' text some
  but_written w = (g.0 ++ pending, g.1, both-written out mid out' g.0 pending g.2 w)

  -- or a prefix of it
  pub but_some : WritesSome mid out' pending → GrowsSome out out' text some
  but_some w = (g.0 ++ pending, g.1, some-behind out mid out' g.0 pending g.2 w)

-- nothing is pending
pub but_none : (out : Device) (pending text : List ℕ) → pending ≡ [] → GrowsBut out out pending text text
but_none out pending text e = ([], sym (ap (λ l. text ++ l) e ∙ append-nil text), writes-none out)

-- of no bytes nothing is pending: what is due was written
pub none_held : (bytes : List ℕ) (p p' : PendingCopy) (out out' : Device) (due : List ℕ) → bytes ≡ [] → IsPart bytes p → IsPart bytes p'
    → PutsAll (pending_in bytes p) (pending_in bytes p') out out' due → Appends out.held out'.held due
none_held bytes p p' out out' due e part part' puts =
    let all : due ≡ puts.0 = sym (ap (λ l. l ++ due) (empty p part)) ∙ puts.1 ∙ ap (λ l. puts.0 ++ l) (empty p' part') ∙ append-nil puts.0 in
    subst (Appends out.held out'.held) (sym all) puts.2.0
  where
    empty : (q : PendingCopy) → IsPart bytes q → pending_in bytes q ≡ []
    empty q here = let le = subst (λ (bs : List ℕ). q.to ≤ length bs) e here.1 in none_between bytes q.from q.to (omega (arith, le))

-- ---- the line of a time

-- that of the next item's time, where the bytes are these
pub next_line_is : (bytes bytes' : List ℕ) (line line' : ℕ × ℕ) (time time' : ℕ) → bytes ≡ bytes' → line ≡ line' → time ≡ time'
    → IsLine bytes line time → IsLine bytes' line' time'
next_line_is bytes bytes' line line' time time' e f g i = subst (λ bs. IsLine bs line' time') e (subst (λ l. IsLine bytes l time') f (subst (λ t. IsLine bytes line t) g i))

-- ---- an item that was taken ahead

-- a section's begin or end is no timestamp
pub no_timestamp_at : (item : Item) → IsSection item → IsNoTimestamp item
no_timestamp_at (Begin s) is = tt
no_timestamp_at End is = tt
no_timestamp_at (Time t) is = absurd is
no_timestamp_at (Change place form) is = absurd is
no_timestamp_at Finish is = absurd is

-- a change is no timestamp, and changes no register
pub no_timestamp_here : (item : Item) (place : ℕ) (form : Form) → item ≡ Change place form → IsNoTimestamp item
no_timestamp_here item place form e = subst IsNoTimestamp (sym e) tt

pub same_regs : (r : Regs) (item : Item) (place : ℕ) (form : Form) → item ≡ Change place form → r ≡ regs_after r item
same_regs r item place form e = subst (λ (i : Item). r ≡ regs_after r i) (sym e) refl

module _ (v : HeadView) (a a' : Ahead) (r : Regs) (p : ScannedItem) (item : TakesItem v a a' r p) where
  pub change_next : (place : ℕ) × (form : Form) × (p.item ≡ Change place form) → IsNextItem v p
  change_next change =
      let s = subst (IsSpelledAs v p) change.2 item.spelled in
      let after = s.3.after in
      let apart = s.3.apart in
      let ends = s.3.ends in
      record {
        none = no_timestamp_here p.item change.0 change.1 change.2;
        within = (omega (arith, after, apart, ends), s.3.within);
        good = item.sound;
        sized = λ known. item.sized;
        bits = item.bits;
        binary = item.binary;
        spelled = λ known. item.spelled;
      }

  pub section_next : IsSection p.item → IsNextItem v p
  section_next is =
      let ends = item.ends in
      let within = item.within in
      record {
        none = no_timestamp_at p.item is;
        within = (in_order p.item is item.spelled, subst (λ (bs : List ℕ). p.end ≤ length bs) (sym item.bytes) (omega (arith, ends, within)));
        good = item.sound;
        sized = λ known. item.sized;
        bits = item.bits;
        binary = item.binary;
        spelled = λ known. item.spelled;
      }
    where
      in_order : (it : Item) → IsSection it → IsSpelledAs v p it → p.begin ≤ p.end
      in_order (Begin s) is le = le
      in_order End is le = le
      in_order (Time t) is le = absurd is
      in_order (Change place form) is le = absurd is
      in_order Finish is le = absurd is
