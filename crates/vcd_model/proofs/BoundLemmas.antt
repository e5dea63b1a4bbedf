-- What is lent counts at most the bound.
use Rattle.vcd_model.proofs.Cited.{◌≡◌, ℕ, ◌+◌, ◌*◌, ◌/◌, ◌%◌, ◌≤◌, List, [], ◌∷◌, length, sum_by, arith, div-add-mod', sum_by-cons, IdCode, Header, text_bytes, input_bound, value_room, RoomFits, MergeFits}
use Rattle.vcd_model.specs.Bound.{bound}

-- a code's part of the values is at most its size and 64
value_room-le : (c : IdCode) → value_room c ≤ c.size + 64
value_room-le c = let d : c.size / 4 * 4 + c.size % 4 ≡ c.size = div-add-mod' c.size 4 in omega arith

-- a code may be held in 128 bytes beside its part of the values
codes_fit : (cs : List IdCode) → sum_by value_room cs + 128 * length cs ≤ sum_by (λ c. c.size + 192) cs
codes_fit [] = omega arith
codes_fit (c ∷ cs) =
    let own = value_room-le c in
    let others = codes_fit cs in
    let room = sum_by-cons value_room c cs in
    let allowed = sum_by-cons (λ d. d.size + 192) c cs in
    omega arith

pub room_fits : RoomFits
room_fits limit h w v r ws is room =
    let a = ws.chunk in let b = ws.token in let c = ws.value in
    let d = is.text in let e = is.rows in let f = is.codes in let g = is.index in let i = is.look_up in
    let j = room.values in let k = room.slots in let l = room.marks in
    let m = codes_fit h.codes in
    omega arith

-- what a header keeps, its feed, its registers and a mark a declaration count at most its bound
head_fits : (limit : ℕ) (h : Header) → 65536 + 512 + 2 * limit + text_bytes h + 50 * length h.declarations + 86 * length h.codes ≤ input_bound limit h
head_fits limit h = let m = codes_fit h.codes in omega arith

heads_fit : (limit : ℕ) (hs : List Header)
    → length hs * 65536 + 512 * length hs + 2 * (length hs * limit) + sum_by text_bytes hs + 50 * sum_by
    (λ h. length h.declarations) hs + 86 * sum_by (λ h. length h.codes) hs ≤ sum_by (input_bound limit) hs
heads_fit limit [] = omega arith
heads_fit limit (h ∷ hs) =
    let own = head_fits limit h in
    let others = heads_fit limit hs in
    let texts = sum_by-cons text_bytes h hs in
    let rows = sum_by-cons (λ e. length e.declarations) h hs in
    let codes = sum_by-cons (λ e. length e.codes) h hs in
    let bounds = sum_by-cons (input_bound limit) h hs in
    omega arith

pub merge_fits : MergeFits
unfolding bound
merge_fits limit hs w v marks ws are few =
    let a = ws.chunk in let b = ws.token in let c = ws.value in
    let d = are.text in let e = are.rows in let f = are.codes in let g = are.index in let i = are.look_up in
    let m = heads_fit limit hs in let l = few in
    omega arith

-- the token limit counts twice for each input
pub bound_of_limit : (limit : ℕ) (hs : List Header) → bound limit hs ≡ bound 0 hs + 2 * (length hs * limit)
unfolding bound
bound_of_limit limit [] = omega arith
bound_of_limit limit (h ∷ hs) =
    let others = bound_of_limit limit hs in
    let more = sum_by-cons (input_bound limit) h hs in
    let none = sum_by-cons (input_bound 0) h hs in
    omega arith
