-- What no call changes: the clocks, as the definitions have them.
use Rattle.std.proofs.Common.{◌≡◌, ◌-◌, List, [], ◌∷◌, Option, Some, option_map, refl, ap, ap₂, ◌∙◌, arith}
use Rattle.std.specs.List.{cons_option}
use Rattle.vcd_model.specs.Declarations.{IdCode}
use Rattle.vcd_model.specs.Strobe.{Clock as ModelClock}
use Rattle.vcd_body.specs.Contents.{codes_shown}
use Rattle.vcd_view.specs.declared.view.HeadView.{HeadView}
use Rattle.vcd_strobe.specs.Clocks.{AreClocks, clock_shown, clocks_shown}
use Rattle.vcd_strobe.specs.Lines.{ArePlaces}
use Rattle.vcd_strobe.specs.Strobes.{SameStrobe}
use Rattle.vcd_strobe.specs.declared.clocks.Clock.{Clock}
use Rattle.vcd_strobe.specs.declared.whole.Strobe.{Strobe}

pub same_itself : (s : Strobe) → SameStrobe s s
same_itself s = record { places = refl; clocks = refl; id = refl }

pub same_then : (a b c : Strobe) → SameStrobe a b → SameStrobe b c → SameStrobe a c
same_then a b c first then = record { places = then.places ∙ first.places; clocks = then.clocks ∙ first.clocks; id = then.id ∙ first.id }

-- another table changes nothing of it
pub same_but_table : (a b : Strobe) → b ≡ record a { table = b.table } → SameStrobe a b
same_but_table a b e = record { places = ap (λ (s : Strobe). s.places) e; clocks = ap (λ (s : Strobe). s.clocks) e; id = ap (λ (s : Strobe). s.id) e }

pub same_fixed : (a b : Strobe) → SameStrobe a b → ◌≡◌ {A = HeadView × List Clock} (b.places, b.clocks.now) (a.places, a.clocks.now)
same_fixed a b same = ap₂ (λ (v : HeadView) (l : _). (v, l.now)) same.places same.clocks

-- the clocks that are kept are those of the definitions
pub clocks_are : (v : HeadView) (codes : List IdCode) → ArePlaces (codes_shown v) codes → (clocks : List Clock) (ks : List ModelClock) → AreClocks codes clocks ks
    → clocks_shown v clocks ≡ ks
clocks_are v codes are [] [] all = refl
clocks_are v codes are [] (k ∷ ks) all = absurd all
clocks_are v codes are (c ∷ clocks) [] all = absurd all
clocks_are v codes are (c ∷ clocks) (k ∷ ks) all = ap₂ (λ (o : Option ModelClock) (l : List ModelClock). cons_option o l) one (clocks_are v codes are clocks ks all.1)
  where
    place : k.code.size - 1 - c.index ≡ k.place
    place = let bit = all.0.bit in omega (arith, bit)

    one : clock_shown (codes_shown v) c ≡ Some k
    one = ap (option_map (λ (code : IdCode). record { code = code; place = code.size - 1 - c.index; falls = c.falls })) (are.each c.code 0 (omega arith) ∙ all.0.there)
        ∙ ap₂ (λ p f. Some (record { code = k.code; place = p; falls = f })) place all.0.falls
