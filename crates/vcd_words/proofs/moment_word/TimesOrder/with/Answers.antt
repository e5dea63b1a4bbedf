use Rattle.vcd_words.proofs.Cited.{rules, ◌≡◌, ◌||◌, ◌&&◌, ap, sym, ◌∙◌, refl, tests, is_some, asked}
use Rattle.vcd_words.proofs.Facts.{is_above, order_push}
use Rattle.vcd_words.proofs.moment_word.TimesOrder.with.Goals as goal
use Rattle.vcd_words.proofs.moment_word.TimesOrder.with.Goals.{then-self, else-self}

pub returns-then-self-2 : goal.returns-then-self-2
returns-then-self-2 c =
    let unit : c.if-self.result ≡ (c.args.self.has_unit || is_some c.args.time.unit) = elim c.if-self.branch [ then-self w ↦ cc | else-self w ↦ cc ] in
    let above : c.is_none_or.result ≡ is_above c.args.self.last c.args.time.number = search (rules, tests) in
    λ times is. order_push times (asked c.args.time) c.args.self _ is unit (above ∙ ap (λ b. b && is_above c.args.self.last c.args.time.number) (sym c.if-self-2.true)) refl

pub returns-else-self-2 : goal.returns-else-self-2
returns-else-self-2 c =
    let unit : c.if-self.result ≡ (c.args.self.has_unit || is_some c.args.time.unit) = elim c.if-self.branch [ then-self w ↦ cc | else-self w ↦ cc ] in
    λ times is. order_push times (asked c.args.time) c.args.self _ is unit (c.if-self-2.false ∙ ap (λ b. b && is_above c.args.self.last c.args.time.number) (sym c.if-self-2.false)) refl
