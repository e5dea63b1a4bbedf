-- Where a reading of changes resumes, and what a call of it finds.
use Rattle.std.specs.Prelude.{◌≡◌, ◌≢◌, ◌⊎◌, ℕ, ◌≤◌, ◌==◌, not, cond, find, List, [], ◌++◌, length, take, Option, Some, None}
use Rattle.vcd_model.specs.BodyPhrases.{BodyPhrase, items_of}
use Rattle.vcd_model.specs.BodyReading.{body_grammar}
use Rattle.vcd_model.specs.Declarations.{IdCode, has_text}
use Rattle.vcd_model.specs.Header.{header_of}
use Rattle.vcd_model.specs.HeaderPhrases.{HeaderPhrase}
use Rattle.vcd_model.specs.HeaderReading.{header_fault_of, header_grammar, read_header}
use Rattle.vcd_model.specs.Input.{Input}
use Rattle.vcd_model.specs.Items.{BodyItem}
use Rattle.vcd_model.specs.Laws.{IsPrefixOf}
use Rattle.vcd_model.specs.Reading.{Placed, phrases_of}
use Rattle.vcd_model.specs.SoFar.{IsSoFar, IsWhole}
use Rattle.vcd_model.specs.Tokens.{Token, stream_of}
use Rattle.vcd_text.specs.Answer.{whole}
use Rattle.vcd_text.specs.Feed.{HasGivenTo}
use Rattle.vcd_text.specs.Registers.{IsOffset}
use Rattle.vcd_text.specs.declared.offset.Offset.{Offset}
use Rattle.vcd_head.specs.Fault.{fault_number}
use Rattle.vcd_head.specs.declared.fault.HeadFault.{HeadFault}
use Rattle.vcd_head.specs.declared.fault.HeadFault.TheVariants.{OutOfMemory}
use Rattle.vcd_body.specs.Items.{AreRegsAfter}
use Rattle.vcd_body.specs.Reads.{BodyHas}
use Rattle.vcd_body.specs.declared.item.Regs.{Regs}
use Rattle.vcd_body.specs.declared.item.Section.{Section}
use Rattle.vcd_body.specs.declared.item.Section.TheVariants.{Vars, Off, On, All}
use Rattle.vcd_changes.specs.Rows.{rows_of}
use Rattle.vcd_changes.specs.declared.reading.Place.{Place}
use Rattle.vcd_changes.specs.declared.reading.Reading.{Reading}
use Rattle.vcd_changes.specs.declared.row.ChangeRow.{ChangeRow}
use Rattle.vcd_changes.specs.declared.rows.Filled.{Filled}
use Rattle.vcd_changes.specs.declared.rows.Filled.TheVariants as filled

-- ---- a `Place` as numbers

abbrev pub section_number : Option Section → ℕ
section_number None = 0
section_number (Some Vars) = 1
section_number (Some Off) = 2
section_number (Some On) = 3
section_number (Some All) = 4

abbrev pub section_at : ℕ → Option Section
section_at n = cond (n == 1) (Some Vars) (cond (n == 2) (Some Off) (cond (n == 3) (Some On) (cond (n == 4) (Some All) None)))

-- the `Place` of a reading that has come this far with this token limit, and of whose items this is
-- known
abbrev pub place_of : (limit : ℕ) → Offset → Regs → Place
place_of limit offset regs = record { limit = limit; offset = offset; time = regs.time; marked = cond regs.marked 1 0; section = section_number regs.section }

-- what is known of the items before a `Place`
abbrev pub regs_of : Place → Regs
regs_of p = record { time = p.time; marked = not (p.marked == 0); section = section_at p.section }

-- ---- in a dump

-- With a token limit the body continues at this `Place`, after these tokens of the header, exactly
-- these items. If the `Place` says that they were read with the lower limit, no token is longer.
pub record IsAfter (limit : ℕ) (codes : List IdCode) (i : Input) (front : List Token) (items : List BodyItem) (p : Place) : Type 0 where
  pub given : List Token
  pub placed : List (Placed BodyPhrase)
  pub begun : p.limit ≢ 0
  pub comes : IsOffset p.offset
  pub stands : HasGivenTo 8192 limit p.offset i (front ++ given)
  pub short : p.limit ≡ 65536 → HasGivenTo 8192 65536 p.offset i (front ++ given)
  pub so_far : IsSoFar (body_grammar codes) given placed []
  pub items_are : items_of (phrases_of placed) ≡ items
  pub known : AreRegsAfter items (regs_of p)

-- the dump begins with these tokens of a whole header with no fault, which has these codes
pub record HasCodes (limit : ℕ) (dump : List ℕ) (front : List Token) (codes : List IdCode) : Type 0 where
  pub placed : List (Placed HeaderPhrase)
  pub first : IsPrefixOf front (stream_of limit (whole dump)).tokens
  pub header : IsWhole (header_grammar 16777216) front placed
  pub codes_are : codes ≡ (header_of (phrases_of placed)).codes

-- a reading of this dump resumes at this `Place`, after these items: at the begin of the body, or
-- where a call has left it
pub data GoesOnUnder (limit : ℕ) (dump : List ℕ) (items : List BodyItem) (p : Place) : Type 0 where
  AtBegin : (new : p.limit ≡ 0) (none : items ≡ []) → GoesOnUnder limit dump items p
  Behind : (front : List Token) (codes : List IdCode) (has : HasCodes limit dump front codes) (after : IsAfter limit codes (whole dump) front items p) → GoesOnUnder limit dump items p

-- the header was refused, and there are no rows. If memory ran out, the status says so; otherwise
-- the fault and its line are noted
abbrev pub Refused : HeadFault → (line : ℕ) → Reading → (status : ℕ) → Type 0
Refused fault line r status = (r.count ≡ 0) × (((fault ≡ OutOfMemory) × (status ≡ 3))
    ⊎ ((fault ≡ OutOfMemory → ⊥) × (status ≡ 1) × (r.fault ≡ fault_number fault) × (r.line ≡ line)))

-- the status of a reading that has met no fault
abbrev pub status_of : Filled → ℕ
status_of filled.All = 0
status_of filled.Full = 4

-- the next call resumes where this one did, unless the body has no other items or the rows are
-- full. So after a fault, or if memory ran out, the same call may be made again
abbrev pub StaysAt : (old new : Reading) → (status : ℕ) → Type 0
StaysAt old new status = status ≢ 0 → status ≢ 4 → new.place ≡ old.place

-- how a call ends whose reading has come after these items: the body has no others and no fault; or
-- it has this fault; or the rows are full, and the next call resumes
abbrev pub EndsAt : (limit : ℕ) → List IdCode → Input → List Token → List BodyItem → Reading → List ChangeRow → ℕ → Type 0
EndsAt limit codes i front items r rows status =
    ((status ≡ 0) × BodyHas codes i front limit items None × IsAfter limit codes i front items r.place)
    ⊎ ((status ≡ 1) × BodyHas codes i front limit items (Some (record { number = r.fault; line = r.line })))
    ⊎ ((status ≡ 4) × (r.count ≡ length rows) × IsAfter limit codes i front items r.place)

-- What a call finds after these items of the body: others, whose changes of this code are in the
-- rows.
pub record Finds (limit : ℕ) (codes : List IdCode) (i : Input) (front : List Token) (items : List BodyItem) (code : List ℕ) (r : Reading) (rows : List ChangeRow) (status : ℕ) : Type 0 where
  pub more : List BodyItem
  pub rows_are : rows_of code (items ++ more) ≡ rows_of code items ++ take r.count rows
  pub ends : EndsAt limit codes i front (items ++ more) r rows status

-- what a call finds in a dump after these items of its body, under a token limit
pub data FindsUnder (limit : ℕ) (dump : List ℕ) (items : List BodyItem) (code : List ℕ) (r : Reading) (rows : List ChangeRow) (status : ℕ) : Type 0 where
  Found : (front : List Token) (codes : List IdCode) (has : HasCodes limit dump front codes)
      (finds : Finds limit codes (whole dump) front items code r rows status) → FindsUnder limit dump items code r rows status
  NoCode : (front : List Token) (codes : List IdCode) (has : HasCodes limit dump front codes) (none : find (has_text code) codes ≡ None)
      (count_is : r.count ≡ 0) (status_is : status ≡ 2) → FindsUnder limit dump items code r rows status
  BadHeader : (fault : header_fault_of (stream_of limit (whole dump)) (read_header 16777216 (stream_of limit (whole dump))) ≡ Some
      (record { number = r.fault; line = r.line })) (none : r.count ≡ 0) (status_is : status ≡ 1) → FindsUnder limit dump items code r rows status
  NoMemory : (count_is : r.count ≡ 0) (status_is : status ≡ 3) → FindsUnder limit dump items code r rows status

-- What a call under a lower limit found is what it finds under the limit of callers: its fault is
-- not that a token is too long, and no halt is noted if the next call resumes.
pub record IsLimitEnough (r : Reading) (status : ℕ) : Type 0 where
  pub fits : status ≡ 1 → r.fault ≢ 1
  pub «open» : r.place.offset.answer ≤ 1

-- ---- for callers: under the token limit of the program

abbrev pub GoesOnAt : (dump : List ℕ) → List BodyItem → Place → Type 0
GoesOnAt = GoesOnUnder 1048576

abbrev pub FindsIn : (dump : List ℕ) → List BodyItem → (code : List ℕ) → Reading → List ChangeRow → (status : ℕ) → Type 0
FindsIn = FindsUnder 1048576
