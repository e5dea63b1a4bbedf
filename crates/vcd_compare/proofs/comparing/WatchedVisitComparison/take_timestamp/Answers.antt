use Rattle.vcd_compare.proofs.Cited.{◌≡◌, ◌≤◌, max, [], ◌∷◌, ◌++◌, refl, sym, ap, subst, ◌∙◌, arith, BodyItem, time_after, within_open, IsItem, AreRegsAfter, regs_after, Item, model_asked, Compares, Comparison, Watched}
use Rattle.vcd_compare.proofs.Facts.{none_differs, not_past, time_later, time_more, time_same}
use Rattle.vcd_compare.proofs.comparing.WatchedVisitComparison.take_timestamp.Goals as goal

pub returns-then-time-self-clause-takes : goal.returns-then-time-self-clause-takes
returns-then-time-self-clause-takes c = λ a a' out item. record {
  scanned = c.args._timestamp;
  item = item;
  done = refl;
  out = refl;
  regs = refl;
  same = record { pairs = refl; asked = refl };
  on = λ h exceptions ns items x views is before after stands.
      let t = c.args.time in
      let mark : x ≡ BodyItem.Time t = subst (λ (i : Item). IsItem h.codes c.args._timestamp.text.now i x) c.requires.time is in
      let known = subst (λ (i : Item). AreRegsAfter (items ++ x ∷ []) (regs_after c.args._regs i)) c.requires.time after in
      let time : t ≡ time_after (items ++ x ∷ []) = known.time_is in
      let grown : t ≡ max (time_after items) t = time ∙ ap (λ (y : BodyItem). time_after (items ++ y ∷ [])) mark ∙ time_more items t in
      let forth : time_after items ≤ t = omega arith in
      let own = c.args.comparison.now in
      let w = c.args.self.now in
      subst (λ (y : BodyItem). Compares h exceptions ns (items ++ y ∷ []) own w
      × (within_open (model_asked own.current.asked exceptions) h ns (items ++ y ∷ []) ≡ within_open (model_asked own.current.asked exceptions) h ns items)) (sym mark)
      (time_same h exceptions ns items t own w stands forth (not_past own w t c.requires.no_stop) c.if-time-self.true);
}

pub returns-clause-takes : goal.returns-clause-takes
returns-clause-takes c = λ a a' out item. record {
  scanned = c.args._timestamp;
  item = item;
  done = refl;
  out = refl;
  regs = refl;
  same = record { pairs = refl; asked = refl };
  on = λ h exceptions ns items x views is before after stands.
      let t = c.args.time in
      let mark : x ≡ BodyItem.Time t = subst (λ (i : Item). IsItem h.codes c.args._timestamp.text.now i x) c.requires.time is in
      let known = subst (λ (i : Item). AreRegsAfter (items ++ x ∷ []) (regs_after c.args._regs i)) c.requires.time after in
      let time : t ≡ time_after (items ++ x ∷ []) = known.time_is in
      let grown : t ≡ max (time_after items) t = time ∙ ap (λ (y : BodyItem). time_after (items ++ y ∷ [])) mark ∙ time_more items t in
      let forth : time_after items ≤ t = omega arith in
      let own = c.args.comparison.now in
      let w = c.args.self.now in
      let next : Comparison = record own { touched = c.clear.new.self } in
      let watched : Watched = record { at = t } in
      subst (λ (y : BodyItem). Compares h exceptions ns (items ++ y ∷ []) next watched
      × (within_open (model_asked own.current.asked exceptions) h ns (items ++ y ∷ []) ≡ within_open (model_asked own.current.asked exceptions) h ns items)) (sym mark)
      (time_later h exceptions ns items t own w stands forth (not_past own w t c.requires.no_stop) c.if-time-self.false
      (none_differs own w t c.requires.no_stop c.if-time-self.false) next watched refl refl refl c.clear.ensures.many c.clear.ensures.cleared);
}

pub returns-clause-stands : goal.returns-clause-stands
returns-clause-stands c =
    let ready = c.requires.stands in
    let last = ready.rows.last in
    record {
      listed = c.clear.ensures.listed;
      laid = ready.laid;
      rows = record { linked = ready.rows.linked; last = omega (arith, last, c.clear.ensures.many); room = ready.rows.room };
    }
