-- Over a source that does not fail, a fault is that of the dump.
use Rattle.vcd_changes.proofs.Cited.{◌≡◌, ℕ, List, Some, refl, Option, IdCode, Input, BodyItem, Fault, Token, limit_of, token_of, Ghosts, Feed, HeadFault, fault_number, BodyHas, Fails, BodyFault, TokenTooLong, EndOfInput, UnknownCommand, OutOfPlace, BadTime, TimeBack, BadValue, UnknownCode, TooWide, RealTooLong, TimeInSection, InputTooLong, ReadFailed}
use Rattle.vcd_head.specs.Fault as head
use Rattle.vcd_head.specs.Reads as heads
use Rattle.vcd_head.specs.declared.fault.HeadFault.TheVariants as of_head

module _ {X : Type 0} {g : Ghosts X} (f : Feed X g) (i : Input) where
  pub body_fault_is : (codes : List IdCode) (front : List Token) (items : List BodyItem) (fault : BodyFault) → (fault ≡ ReadFailed → ⊥)
      → Fails codes i front items fault f → BodyHas codes i front (limit_of f) items
      (Some (record { number = fault_number fault; line = (token_of f).line }))
  body_fault_is codes front items TokenTooLong n h = h.0
  body_fault_is codes front items EndOfInput n h = h.0
  body_fault_is codes front items UnknownCommand n h = h.0
  body_fault_is codes front items OutOfPlace n h = h.0
  body_fault_is codes front items BadTime n h = h.0
  body_fault_is codes front items TimeBack n h = h.0
  body_fault_is codes front items BadValue n h = h.0
  body_fault_is codes front items UnknownCode n h = h.0
  body_fault_is codes front items TooWide n h = h.0
  body_fault_is codes front items RealTooLong n h = h.0
  body_fault_is codes front items TimeInSection n h = h.0
  body_fault_is codes front items InputTooLong n h = h.0
  body_fault_is codes front items ReadFailed n h = absurd (n refl)

  pub head_fault_is : (most : ℕ) (fault : HeadFault) → (fault ≡ of_head.ReadFailed → ⊥) → (fault ≡ of_head.OutOfMemory → ⊥)
      → heads.Fails most i fault f → heads.HasFault most (limit_of f) i (head.fault_number fault) (token_of f).line
  head_fault_is most of_head.TokenTooLong n m h = h.0
  head_fault_is most of_head.EndOfInput n m h = h.0
  head_fault_is most of_head.UnknownCommand n m h = h.0
  head_fault_is most of_head.OutOfPlace n m h = h.0
  head_fault_is most of_head.BadTimescale n m h = h.0
  head_fault_is most of_head.BadScope n m h = h.0
  head_fault_is most of_head.BadVariable n m h = h.0
  head_fault_is most of_head.CodeDiffers n m h = h.0
  head_fault_is most of_head.NoScope n m h = h.0
  head_fault_is most of_head.TooDeep n m h = h.0
  head_fault_is most of_head.TooMany n m h = h.0
  head_fault_is most of_head.InputTooLong n m h = h.0
  head_fault_is most of_head.ReadFailed n m h = absurd (n refl)
  head_fault_is most of_head.OutOfMemory n m h = absurd (m refl)

-- a fault is known by its number and its line
pub some_fault : (n m line at : ℕ) → m ≡ n → at ≡ line → ◌≡◌ {A = Option Fault} (Some (record { number = n; line = line })) (Some (record { number = m; line = at }))
some_fault n m line at e f = rw (e, f) refl
