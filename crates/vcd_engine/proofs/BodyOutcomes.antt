-- The outcome of a dump by its header.
use Rattle.vcd_engine.proofs.Cited.{◌≡◌, ℕ, true, false, List, Some, None, is_some, refl, ap, Header, Opened, Request, items_in, fault_in, name_at, names_of, unmatched_outcome, first_unmatched, header_settles, CanRun, reads_body}
use Rattle.vcd_model.specs.Outcome.{over_dump, over_body}

-- a header under which a request can be run does not settle it
pub goes_behind : (t : Request) (h : Header) → CanRun t h → header_settles t h ≡ false
goes_behind Request.Check h can = ap is_some can.matched
goes_behind Request.Listing h can = let body = can.body in cc
goes_behind (Request.Pick names) h can = ap is_some can.matched
goes_behind (Request.Cut from to) h can = ap is_some can.matched
goes_behind (Request.Sample times names) h can = ap is_some can.matched
goes_behind (Request.Edges names) h can = ap is_some can.matched
goes_behind Request.Merge h can = ap is_some can.matched

-- ---- the outcome of a body

-- each name of the request selects something
pub over_matched : (t : Request) (name : List ℕ) (o : Opened) → reads_body t ≡ true → first_unmatched (names_of t) o.header.declarations ≡ None
    → over_dump t name o ≡ over_body t o.header (items_in o) name (fault_in o)
unfolding over_dump
over_matched Request.Check name o b e = refl
over_matched Request.Listing name o b e = cc
over_matched (Request.Pick names) name o b e = rw (e, over_dump) refl
over_matched (Request.Cut from to) name o b e = refl
over_matched (Request.Sample times names) name o b e = rw (e, over_dump) refl
over_matched (Request.Edges names) name o b e = rw (e, over_dump) refl
over_matched Request.Merge name o b e = refl

-- or one of them does not
pub over_unmatched : (t : Request) (name : List ℕ) (o : Opened) (place : ℕ) → first_unmatched (names_of t) o.header.declarations ≡ Some place
    → over_dump t name o ≡ unmatched_outcome (name_at (names_of t) place)
unfolding over_dump
over_unmatched Request.Check name o place e = cc
over_unmatched Request.Listing name o place e = cc
over_unmatched (Request.Pick names) name o place e = rw (e, over_dump) refl
over_unmatched (Request.Cut from to) name o place e = cc
over_unmatched (Request.Sample times names) name o place e = rw (e, over_dump) refl
over_unmatched (Request.Edges names) name o place e = rw (e, over_dump) refl
over_unmatched Request.Merge name o place e = cc
