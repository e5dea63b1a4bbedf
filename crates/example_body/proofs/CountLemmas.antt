-- The counts after one item more.
use Rattle.std.proofs.Common.{◌≡◌, ℕ, ◌+◌, ◌<◌, ◌≤◌, Bool, true, false, cond, List, [], ◌∷◌, ◌++◌, count_by, refl, ◌∙◌, arith}
use Rattle.std.proofs.lemmas.List.Sums.{sum_by-append}
use Rattle.vcd_head.specs.Model.Declarations.{IdCode}
use Rattle.vcd_head.specs.Model.Input.{Input}
use Rattle.vcd_head.specs.Model.Items.{BodyItem}
use Rattle.vcd_head.specs.Model.Tokens.{Token}
use Rattle.vcd_text.specs.declared.device.Source.{Ghosts}
use Rattle.vcd_text.specs.declared.feed.Feed.{Feed}
use Rattle.vcd_body.specs.Given.{GivesItem}
use Rattle.vcd_body.specs.Reads.{GaveItems}
use Rattle.vcd_body.specs.declared.item.Form.TheVariants.{Scalar, Vector, RealText}
use Rattle.vcd_body.specs.declared.item.Item.{Item}
use Rattle.vcd_body.specs.declared.item.Item.TheVariants.{Time, Begin, End, Change, Finish}
use Rattle.vcd_body.specs.declared.item.Regs.{Regs}
use Rattle.std.specs.Prelude.{Result, IfOk}
use Rattle.std.proofs.lemmas.Result.{IfOk-weaker}
use Rattle.vcd_head.specs.Model.Header.{header_of}
use Rattle.vcd_head.specs.Model.HeaderPhrases.{HeaderPhrase}
use Rattle.vcd_head.specs.Model.HeaderReading.{header_grammar}
use Rattle.vcd_head.specs.Model.Reading.{Placed, phrases_of}
use Rattle.vcd_head.specs.Model.SoFar.{IsWhole}
use Rattle.vcd_text.specs.Answer.{whole}
use Rattle.example_body.specs.Counts.{AreForms, BodyCounts, DumpCounts, counted, is_change, is_real, is_scalar, is_vector}
use Rattle.example_body.specs.declared.Forms.{Forms}

-- one item more is counted, or not
pushed : (p : BodyItem → Bool) (items : List BodyItem) (x : BodyItem) (n : ℕ) → n ≡ count_by p items → n + cond (p x) 1 0 ≡ count_by p (items ++ x ∷ [])
pushed p items x n e = let s = sum_by-append (λ y. cond (p y) 1 0) items (x ∷ []) in omega arith

-- no item was given
pub none_yet : AreForms [] (record { scalars = 0; vectors = 0; reals = 0 })
none_yet = record { scalars = refl; vectors = refl; reals = refl }

module _ (items : List BodyItem) (f : Forms) (a : AreForms items f) where
  -- the counts with this item, each one more where the item is such a change
  grown : (x : BodyItem) (after : Forms) → after.scalars ≡ f.scalars + cond (is_change is_scalar x) 1 0
      → after.vectors ≡ f.vectors + cond (is_change is_vector x) 1 0 → after.reals ≡ f.reals + cond (is_change is_real x) 1 0
      → AreForms (items ++ x ∷ []) after
  grown x after s v r = record {
    scalars = s ∙ pushed (is_change is_scalar) items x f.scalars a.scalars;
    vectors = v ∙ pushed (is_change is_vector) items x f.vectors a.vectors;
    reals = r ∙ pushed (is_change is_real) items x f.reals a.reals;
  }

  -- the counts after the item that was given
  pub taken : {X : Type 0} {g : Ghosts X} (codes : List IdCode) (i : Input) (front : List Token) (feed : Feed X g) (r : Regs) (item : Item) → GivesItem codes i front items feed r item
      → (after : List BodyItem) × GaveItems codes i front after feed r × AreForms after (counted f item)
  taken codes i front feed r (Time t) h = (_, h.gave, grown (BodyItem.Time t) f (omega arith) (omega arith) (omega arith))
  taken codes i front feed r (Begin s) h = (_, h.gave, grown _ _ (omega arith) (omega arith) (omega arith))
  taken codes i front feed r End h = (_, h.gave, grown BodyItem.End f (omega arith) (omega arith) (omega arith))
  taken codes i front feed r (Change code Scalar) h = (_, h.2.gave, grown _ _ (omega arith) (omega arith) (omega arith))
  taken codes i front feed r (Change code Vector) h = (_, h.2.gave, grown _ _ (omega arith) (omega arith) (omega arith))
  taken codes i front feed r (Change code RealText) h = (_, h.2.gave, grown _ _ (omega arith) (omega arith) (omega arith))
  taken codes i front feed r Finish h = (items, h.gave, a)

-- one item more adds at most one to the counts
pub counted_most : (f : Forms) (item : Item) (seen after : ℕ) → f.scalars + f.vectors + f.reals ≤ seen → seen < after
    → (counted f item).scalars + (counted f item).vectors + (counted f item).reals ≤ after
counted_most f (Time t) seen after l m = omega arith
counted_most f (Begin s) seen after l m = omega arith
counted_most f End seen after l m = omega arith
counted_most f (Change code Scalar) seen after l m = omega arith
counted_most f (Change code Vector) seen after l m = omega arith
counted_most f (Change code RealText) seen after l m = omega arith
counted_most f Finish seen after l m = omega arith

pub not_both : (b : Bool) → b ≡ true → b ≡ false → ⊥
not_both true e f = cc
not_both false e f = cc

-- the body's counts are the dump's
pub dump_counts : {E : Type 0} (text : List ℕ) (front : List Token) (placed : List (Placed HeaderPhrase)) (body : Result Forms E) → IsWhole (header_grammar 16777216) front placed
    → IfOk body (BodyCounts (header_of (phrases_of placed)).codes (whole text) front 65536) → IfOk body (DumpCounts text)
dump_counts text front placed body header counts = IfOk-weaker body _ _ (λ f b. record { front = front; placed = placed; header = header; body = b }) counts
