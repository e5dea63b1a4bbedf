use Rattle.vcd_changes.proofs.Cited.{◌≡◌, ◌∙◌, ◌++◌, ℕ, List, [], Result, Err, Some, ap, arith, false, inl, inr, length, refl, subst, sym, true, whole, HasGivenTo, limit_of, token_of, HeadFault, Head, HasFault, Views, header_of, phrases_of, gave_nothing, GaveItems, Regs, FindsUnder}
use Rattle.vcd_changes.proofs.Facts.{codes_in, finds_for, goes_behind, has_codes, none_before, head_fault_is, some_fault, found_text, goes_on, has_not_failed}
use Rattle.vcd_head.specs.Fault.{fault_number}
use Rattle.vcd_head.specs.declared.fault.HeadFault.TheVariants.{ReadFailed}
use Rattle.vcd_head.specs.ViewShown.{HeadShown}
use Rattle.vcd_changes.proofs.dump.read_dump.Goals as goal

apart : false ≡ true → ⊥
apart e = cc

as_err : (a b : HeadFault) → a ≡ b → ◌≡◌ {A = Result Head HeadFault} (Err a) (Err b)
as_err a b e = ap (λ (x : HeadFault). Err x) e

pub returns-in-Err-clause-finds : goal.returns-in-Err-clause-finds
returns-in-Err-clause-finds g c = λ items goes.
    let dump = c.args.dump.now in
    let f = c.read_head_with_hasher.new.feed in
    let stands = c.new-feed.ensures.begins.stands in
    let limit : limit_of f ≡ c.args.limit = c.in-Err.ensures.lengths.0 ∙ omega (arith, c.in_ok-token.ensures.len, c.deref_mut-2.ensures.len, c.new-feed.ensures.begins.limit) in
    let not_read : c.in-Err.fault ≡ ReadFailed → ⊥ = λ e. let more = c.in-Err.ensures.failed (has_not_failed c.new-feed.result dump [] stands)
    (as_err c.in-Err.fault ReadFailed e) in absurd (omega arith) in
    elim c.note_bad_header.ensures.refused.1 [
      | inl h ↦ FindsUnder.NoMemory c.note_bad_header.ensures.refused.0 h.1
      | inr h ↦
          let has = subst (λ (n : ℕ). HasFault 16777216 n (whole dump) (fault_number c.in-Err.fault) (token_of f).line) limit
          (head_fault_is f (whole dump) 16777216 c.in-Err.fault not_read h.0 (c.in-Err.ensures.reads (whole dump) stands)) in
          FindsUnder.BadHeader (has ∙ some_fault (fault_number c.in-Err.fault) _ (token_of f).line _ h.2 (h.3 ∙ c.line.ensures)) c.note_bad_header.ensures.refused.0 h.1
    ]

pub returns-in_default-clause-finds : goal.returns-in_default-clause-finds
returns-in_default-clause-finds g c = λ items goes.
    let dump = c.args.dump.now in
    let stands = c.new-feed.ensures.begins.stands in
    let limit : limit_of c.read_head_with_hasher.new.feed ≡ c.args.limit = c.in-Ok.ensures.lengths.0
    ∙ omega (arith, c.in_ok-token.ensures.len, c.deref_mut-2.ensures.len, c.new-feed.ensures.begins.limit) in
    let head = c.in-Ok.ensures.reads (whole dump) stands in
    let views = subst (λ (s : HeadShown). Views s (header_of (phrases_of head.placed))) (sym c.view-shown.ensures) head.views in
    FindsUnder.NoCode head.given (codes_in head.placed) (has_codes c.read_head_with_hasher.new.feed c.args.limit dump _ head limit)
    (c.in_default.ensures.found (header_of (phrases_of head.placed)) views) c.requires.none refl

pub returns-then-at-eq0-clause-finds : goal.returns-then-at-eq0-clause-finds
returns-then-at-eq0-clause-finds g c = λ items goes.
    let dump = c.args.dump.now in
    let f = c.read_head_with_hasher.new.feed in
    let stands = c.new-feed.ensures.begins.stands in
    let limit : limit_of f ≡ c.args.limit = c.in-Ok.ensures.lengths.0 ∙ omega (arith, c.in_ok-token.ensures.len, c.deref_mut-2.ensures.len, c.new-feed.ensures.begins.limit) in
    let head = c.in-Ok.ensures.reads (whole dump) stands in
    let h = header_of (phrases_of head.placed) in
    let views = subst (λ (s : HeadShown). Views s h) (sym c.view-shown.ensures) head.views in
    let at = c.in-Some.ensures.found h views in
    let none = none_before c.args.limit dump items c.args.reading.now.place goes c.if-at-eq0.true in
    let finds = c.fill_rows.ensures.finds h dump head.given [] at.0 views (gave_nothing h.codes (whole dump) head.given f c.new.result head.stands c.new.ensures.known) at.1 in
    FindsUnder.Found head.given (codes_in head.placed) (has_codes f c.args.limit dump _ head limit)
    (finds_for c.args.limit h.codes (whole dump) head.given [] items at.0.text c.args.code.now _ _ _ none (found_text h.codes c.args.code.now at.0 at.2) finds)

pub returns-in-Some-at-clause-finds : goal.returns-in-Some-at-clause-finds
returns-in-Some-at-clause-finds g c = λ items goes.
    let dump = c.args.dump.now in
    let f = c.read_head_with_hasher.new.feed in
    let stands = c.new-feed.ensures.begins.stands in
    let limit : limit_of f ≡ c.args.limit = c.in-Ok.ensures.lengths.0 ∙ omega (arith, c.in_ok-token.ensures.len, c.deref_mut-2.ensures.len, c.new-feed.ensures.begins.limit) in
    let head = c.in-Ok.ensures.reads (whole dump) stands in
    let h = header_of (phrases_of head.placed) in
    let has = has_codes f c.args.limit dump _ head limit in
    let views = subst (λ (s : HeadShown). Views s h) (sym c.view-shown.ensures) head.views in
    let at = c.in-Some.ensures.found h views in
    let after = goes_behind c.args.limit dump items c.args.reading.now.place goes c.if-at-eq0.false head.given (codes_in head.placed) has in
    let o = c.args.reading.now.place.offset in
    let chunk : length c.deref_mut-4.result.now ≡ 8192 = omega (arith, c.in_ok-chunk.ensures.len, c.deref_mut.ensures.len, c.deref_mut-4.ensures.len) in
    let token : length c.deref_mut-5.result.now ≡ c.args.limit = omega (arith, c.in_ok-token.ensures.len, c.deref_mut-2.ensures.len, c.deref_mut-5.ensures.len) in
    let to = subst (λ (n : ℕ). HasGivenTo n c.args.limit o (whole dump) (head.given ++ after.given)) (sym chunk) after.stands in
    let given = c.in-Some-at.ensures.given (whole dump) (head.given ++ after.given) (ap (λ (l : List ℕ). Some l) c.bytes_after-source.ensures)
    (subst (λ (n : ℕ). HasGivenTo (length c.deref_mut-4.result.now) n o (whole dump) (head.given ++ after.given)) (sym token) to) in
    let gave = subst (λ (r : Regs). GaveItems h.codes (whole dump) head.given items c.in-Some-at.feed r) (sym c.regs_of.ensures)
    (goes_on c.args.limit h.codes (whole dump) head.given items c.in-Some-at.feed c.args.reading.now.place after given) in
    FindsUnder.Found head.given (codes_in head.placed) has
    (finds_for c.args.limit h.codes (whole dump) head.given items items at.0.text c.args.code.now _ _ _ refl
    (found_text h.codes c.args.code.now at.0 at.2) (c.fill_rows-in-Some-at.ensures.finds h dump head.given items at.0 views gave at.1))

pub returns-clause-finds : goal.returns-clause-finds
returns-clause-finds g c = λ items goes.
    let dump = c.args.dump.now in
    let f = c.read_head_with_hasher.new.feed in
    let limit : limit_of f ≡ c.args.limit = c.in-Ok.ensures.lengths.0 ∙ omega (arith, c.in_ok-token.ensures.len, c.deref_mut-2.ensures.len, c.new-feed.ensures.begins.limit) in
    let head = c.in-Ok.ensures.reads (whole dump) c.new-feed.ensures.begins.stands in
    let after = goes_behind c.args.limit dump items c.args.reading.now.place goes c.if-at-eq0.false head.given (codes_in head.placed) (has_codes f c.args.limit dump _ head limit) in
    absurd (apart (c.in-None.ensures.comes after.comes))
