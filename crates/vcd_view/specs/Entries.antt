-- The entries by which codes are looked up.
use Rattle.std.specs.Prelude.{◌≡◌, ◌≤◌, ◌⊎◌, ℕ, ◌+◌, ◌-◌, ◌*◌, ◌/◌, ◌%◌, ◌^◌, ◌==◌, ◌&&◌, ◌||◌, nat_le, bit_and, bit_or, cond, Bool, true, false, List, [], ◌∷◌, length, slice_get, slice_range, Some, option_map, unwrap_or}
use Rattle.std.specs.List.{list_all}
use Rattle.vcd_view.specs.declared.view.Code.{Code}
use Rattle.vcd_view.specs.declared.view.Entry.{Entry}
use Rattle.vcd_view.specs.Keys.{key_in}

-- this many bytes of a text from an index on, none if it has fewer
abbrev pub text_in : List ℕ → ℕ → ℕ → List ℕ
text_in text start len = cond (nat_le (start + len) (length text)) (slice_range text start (start + len)) []

-- the bytes of the code at an index, none if there is no such code
abbrev pub code_bytes : List ℕ → List Code → ℕ → List ℕ
code_bytes text codes p = unwrap_or (option_map (λ (c : Code). text_in text c.start c.len) (slice_get codes p)) []

-- the size of a code, or 0 for an event or if the size does not fit into 32 bits: a change of the
-- code may have this many digits in any case
abbrev pub size_or_zero_of : Code → ℕ
size_or_zero_of c = cond (c.event || nat_le (2 ^ 32) c.size) 0 c.size

-- the entry is that of the code, whose bytes lie in the text
abbrev pub is_entry_of : List ℕ → Entry → Code → Bool
is_entry_of text e c = (e.key == key_in (text_in text c.start c.len)) && (e.size_or_zero == size_or_zero_of c)

-- the entry is empty, or one that says nothing of the code at its index, as those of long codes do,
-- or that of the code at its index
abbrev pub is_right : List ℕ → List Code → Entry → Bool
is_right text codes e = (e.key == 0) || (nat_le (2 ^ 63) e.key || unwrap_or (option_map (is_entry_of text e) (slice_get codes e.position)) false)

-- the entry of a code with these bytes may have this key: its own, or one of a long code
abbrev pub MayHaveKey : List ℕ → ℕ → Type 0
MayHaveKey bytes key = (key ≡ key_in bytes) ⊎ (2 ^ 63 ≤ key)

-- each entry is right
abbrev pub are_right : List ℕ → List Code → List Entry → Bool
are_right text codes es = list_all (is_right text codes) es

-- if each entry was right before a call, each is after it
abbrev pub KeepsRight : List ℕ → List Code → (old new : List Entry) → Type 0
KeepsRight text codes old new = are_right text codes old ≡ true → are_right text codes new ≡ true

-- the number with one more digit below its lowest, in 64 bits
abbrev pub above : ℕ → ℕ → ℕ
above n b = ((n * 99) % 2 ^ 64 + (b + (2 ^ 64 - 32)) % 2 ^ 64) % 2 ^ 64

-- the number whose digits in base 99 are the bytes of a code, the first one lowest
abbrev pub number_in : List ℕ → ℕ
number_in [] = 0
number_in (b ∷ bs) = above (number_in bs) b

-- which of this many entries is that of the code
abbrev pub entry_in : List ℕ → ℕ → ℕ
entry_in code entries = bit_and (number_in code) ((entries + (2 ^ 64 - 1)) % 2 ^ 64)

-- the entry to which a hash leads after this many looks: the lower half says where the first is,
-- the upper half how far one is from the next
abbrev pub entry_after : ℕ → ℕ → ℕ → ℕ
entry_after hash looks entries = bit_and ((hash + looks * bit_or (hash / 2 ^ 32) 1 % 2 ^ 64) % 2 ^ 64) ((entries + (2 ^ 64 - 1)) % 2 ^ 64)

-- one of the entries has this key and this index
abbrev pub HasEntry : List Entry → ℕ → ℕ → Type 0
HasEntry es key position = (i : ℕ) × (e : Entry) × (slice_get es i ≡ Some e) × (e.key ≡ key) × (e.position ≡ position)

-- the bytes of the code at an index are these
abbrev pub IsAt : List ℕ → List Code → List ℕ → ℕ → Type 0
IsAt text codes bytes position = (c : Code) × (slice_get codes position ≡ Some c) × (text_in text c.start c.len ≡ bytes)
