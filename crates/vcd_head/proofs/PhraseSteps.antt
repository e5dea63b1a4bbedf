-- Whole phrases that declare nothing, and the end of a header.
use Rattle.vcd_head.proofs.Cited.{◌≡◌, ℕ, true, false, List, [], ◌∷◌, ◌++◌, Option, IfSome, Some, None, option_map, Result, Ok, Err, MatchResult, IfOk, IfErr, ◌+◌, ◌≤◌, suc, map, reverse, length, arith, refl, sym, ap, subst, ◌∙◌, Vec, join_with_byte, map-append, Input, first_failed, Keyword, keyword_text, is_end, is_command, is_unknown_command, keyword_of, start_checks, inner_checks, begins_change, HeaderPhrase, declarations_of, phrase_with, Placed, phrases_of, read_to_shown, token_of, Ghosts, Feed, Draft, HeadFault, ReadsEnd, Reads, ReadsToken, Fails, GivesHead, NoEnds, model_keyword, RunsOn, EndsThere, Codes, HasNone, IsDraftOf, HasCodes, IsNew, AtKeyword, AtFirstToken, AtOther, DraftsUpTo, DraftsAll, IsExponent, AreRows, Views, shown, Head, Scale, OutOfMemory, OutOfPlace, header_of, header_grammar, so_far-nothing, HasGiven, not_until, until, keyword_is}
use Rattle.vcd_view.specs.declared.keyword.Keyword.{Keyword as WordOf}
use Rattle.vcd_head.proofs.CodesLemmas.{none_held}
use Rattle.vcd_model.specs.Declarations.{codes_of, enclosing}
use Rattle.vcd_head.proofs.TokenSteps.{taken, taken_phrase, then_ok, faultless_whole}
use Rattle.vcd_head.proofs.PhraseLemmas.{begun, ended, ended_all, header_asks_end, runs_freely, unknown_runs, unknown_is, unknown_free}
use Rattle.vcd_head.proofs.WordLemmas.{fault_of_command, unknown_command}
use Rattle.vcd_head.proofs.DraftLemmas.{holds_plain, holds_date, holds_version}
use Rattle.vcd_head.proofs.DraftSteps.{carried, passed_test, whole_test}

pub not_whole_date : (inner : List (List ℕ)) (t : List ℕ) → NoEnds inner → is_end t ≡ false → phrase_with Keyword.Date (inner ++ t ∷ []) ≡ None
not_whole_date inner t none e = ap (option_map HeaderPhrase.Date) (not_until inner t none e)

pub not_whole_version : (inner : List (List ℕ)) (t : List ℕ) → NoEnds inner → is_end t ≡ false → phrase_with Keyword.Version (inner ++ t ∷ []) ≡ None
not_whole_version inner t none e = ap (option_map HeaderPhrase.Version) (not_until inner t none e)

not_whole_comment : (inner : List (List ℕ)) (t : List ℕ) → NoEnds inner → is_end t ≡ false → phrase_with Keyword.Comment (inner ++ t ∷ []) ≡ None
not_whole_comment inner t none e = ap (option_map HeaderPhrase.Comment) (not_until inner t none e)

module _ {X : Type 0} {g : Ghosts X} (most : ℕ) (i : Input) where
  pub text_begun : (k : Keyword) (d : Draft) (f : Feed X g) (b : AtKeyword most i k d f)
      → first_failed (start_checks most (declarations_of (phrases_of b.placed)) k) ≡ None → phrase_with k [] ≡ None
      → ((inner : List (List ℕ)) (t : List ℕ) → inner_checks (declarations_of (phrases_of b.placed)) k inner t ≡ [])
      → ((inner : List (List ℕ)) (t : List ℕ) → NoEnds inner → is_end t ≡ false → phrase_with k (inner ++ t ∷ []) ≡ None)
      → Reads most i b.placed (keyword_text k ∷ []) f × RunsOn most b.placed (keyword_text k ∷ [])
  text_begun k d f b c q free whole = (begun most i b.placed k f b.keyword c q b.token_read, runs_freely most b.placed k [] free whole)

  pub date_read : (d : Draft) (f f' : Feed X g) (v : Vec ℕ) (b : AtKeyword most i Keyword.Date d f)
      → EndsThere most i b.placed (keyword_text Keyword.Date ∷ []) f' (λ inner. v.items ≡ join_with_byte 32 inner)
      → DraftsUpTo most i (record d { date = v }) f'
  date_read d f f' v b e =
      carried most i (record d { date = v }) f' b.placed (record { phrase = HeaderPhrase.Date e.inner; line = (token_of f').line })
      (ended most i b.placed Keyword.Date f' e.inner (HeaderPhrase.Date e.inner) refl (ap (option_map HeaderPhrase.Date) (until e.inner (token_of f').bytes e.none e.ends)) refl e.token_read)
      (holds_date most d (phrases_of b.placed) e.inner v b.holds e.grows)

  pub version_read : (d : Draft) (f f' : Feed X g) (v : Vec ℕ) (b : AtKeyword most i Keyword.Version d f)
      → EndsThere most i b.placed (keyword_text Keyword.Version ∷ []) f' (λ inner. v.items ≡ join_with_byte 32 inner)
      → DraftsUpTo most i (record d { version = v }) f'
  version_read d f f' v b e =
      carried most i (record d { version = v }) f' b.placed (record { phrase = HeaderPhrase.Version e.inner; line = (token_of f').line })
      (ended most i b.placed Keyword.Version f' e.inner (HeaderPhrase.Version e.inner) refl (ap (option_map HeaderPhrase.Version) (until e.inner (token_of f').bytes e.none e.ends)) refl e.token_read)
      (holds_version most d (phrases_of b.placed) e.inner v b.holds e.grows)

  pub comment_read : (d : Draft) (f f' : Feed X g) (r : Result (Unit {0}) HeadFault) (b : AtKeyword most i Keyword.Comment d f)
      → (RunsOn most b.placed (keyword_text Keyword.Comment ∷ []) → Reads most i b.placed (keyword_text Keyword.Comment ∷ []) f
      → MatchResult r (λ u. EndsThere most i b.placed (keyword_text Keyword.Comment ∷ []) f' (λ inner. Unit {0})) (λ fault. Fails most i fault f'))
      → MatchResult r (λ u. DraftsUpTo most i d f') (λ fault. Fails most i fault f')
  comment_read d f f' r b h = let s = text_begun Keyword.Comment d f b refl refl (λ inner t. refl) not_whole_comment in by_result r (h s.1 s.0)
    where
      by_result : (x : Result (Unit {0}) HeadFault) → MatchResult x
          (λ u. EndsThere most i b.placed (keyword_text Keyword.Comment ∷ []) f' (λ inner. Unit {0})) (λ fault. Fails most i fault f')
          → MatchResult x (λ u. DraftsUpTo most i d f') (λ fault. Fails most i fault f')
      by_result (Err fault) e = e
      by_result (Ok u) e =
          carried most i d f' b.placed (record { phrase = HeaderPhrase.Comment e.inner; line = (token_of f').line })
          (ended most i b.placed Keyword.Comment f' e.inner (HeaderPhrase.Comment e.inner) refl
          (ap (option_map HeaderPhrase.Comment) (until e.inner (token_of f').bytes e.none e.ends)) refl e.token_read)
          (holds_plain most d (phrases_of b.placed) (HeaderPhrase.Comment e.inner) refl refl refl refl b.holds)

  pub unknown_begun : (d : Draft) (f : Feed X g) (b : AtOther most i d f) → begins_change (token_of f).bytes ≡ false
      → is_command (token_of f).bytes ≡ true → Reads most i b.placed ((token_of f).bytes ∷ []) f × RunsOn most b.placed ((token_of f).bytes ∷ [])
  unknown_begun d f b o c =
      let u = unknown_command (token_of f).bytes b.other c in (
        taken most i b.placed [] f (fault_of_command most (phrases_of b.placed) (token_of f).bytes b.other o c)
            (unknown_is (token_of f).bytes [] u) b.token_read,
        unknown_runs most b.placed (token_of f).bytes u,
      )

  unknown_whole : (d : Draft) (f f' : Feed X g) (b : AtOther most i d f) → is_unknown_command (token_of f).bytes ≡ true
      → EndsThere most i b.placed ((token_of f).bytes ∷ []) f' (λ inner. Unit {0}) → DraftsUpTo most i d f'
  unknown_whole d f f' b u e =
      let t = (token_of f).bytes in
      let p = HeaderPhrase.Unknown t e.inner in
      carried most i d f' b.placed (record { phrase = p; line = (token_of f').line })
      (taken_phrase most i b.placed (t ∷ e.inner) f' p (unknown_free most (phrases_of b.placed) t e.inner (token_of f').bytes u)
      (unknown_is t (e.inner ++ (token_of f').bytes ∷ []) u ∙ ap (option_map (HeaderPhrase.Unknown t))
      (until e.inner (token_of f').bytes e.none e.ends)) refl e.token_read)
      (holds_plain most d (phrases_of b.placed) p refl refl refl refl b.holds)

  pub unknown_read : (d : Draft) (f f' : Feed X g) (r : Result (Unit {0}) HeadFault) (b : AtOther most i d f) → begins_change (token_of f).bytes ≡ false → is_command (token_of f).bytes ≡ true
      → MatchResult r (λ u. EndsThere most i b.placed ((token_of f).bytes ∷ []) f' (λ inner. Unit {0})) (λ fault. Fails most i fault f')
      → MatchResult r (λ u. DraftsUpTo most i d f') (λ fault. Fails most i fault f')
  unknown_read d f f' (Err fault) b o c e = e
  unknown_read d f f' (Ok w) b o c e = unknown_whole d f f' b (unknown_command (token_of f).bytes b.other c) e

  end_begun : (d : Draft) (f : Feed X g) (b : AtKeyword most i Keyword.EndDefinitions d f) → Reads most i b.placed (keyword_text Keyword.EndDefinitions ∷ []) f
  end_begun d f b = begun most i b.placed Keyword.EndDefinitions f b.keyword refl refl b.token_read

  end_read : (d : Draft) (f f' : Feed X g) (b : AtKeyword most i Keyword.EndDefinitions d f)
      → ReadsToken most i b.placed (keyword_text Keyword.EndDefinitions ∷ []) f' → is_end (token_of f').bytes ≡ true → DraftsAll most i d f'
  end_read d f f' b l e = record {
    placed = b.placed ++ record { phrase = HeaderPhrase.EndDefinitions; line = (token_of f').line } ∷ [];
    reads = ended_all most i b.placed Keyword.EndDefinitions f' [] HeaderPhrase.EndDefinitions (passed_test (is_end (token_of f').bytes) 4 e)
        (whole_test (is_end (token_of f').bytes) HeaderPhrase.EndDefinitions e) refl l;
    holds = subst (IsDraftOf most d) (sym (map-append (λ (q : Placed HeaderPhrase). q.phrase) b.placed
        (record { phrase = HeaderPhrase.EndDefinitions; line = (token_of f').line } ∷ [])))
        (holds_plain most d (phrases_of b.placed) HeaderPhrase.EndDefinitions refl refl refl refl b.holds);
  }

  pub end_taken : (d : Draft) (f f' : Feed X g) (r : Result (Unit {0}) HeadFault) (b : AtKeyword most i Keyword.EndDefinitions d f)
      → ReadsEnd OutOfPlace f f' r → MatchResult r (λ u. DraftsAll most i d f') (λ fault. Fails most i fault f')
  end_taken d f f' r b h = then_ok r _ (λ u. DraftsAll most i d f') _ (λ u e. end_read d f f' b e.0 e.1)
      (h most i b.placed (keyword_text Keyword.EndDefinitions ∷ []) (header_asks_end most b.placed) (λ x. x) (end_begun d f b))

-- the first token of a phrase was looked at
pub begun_by : {X : Type 0} {g : Ghosts X} (most : ℕ) (i : Input) (d : Draft) (f : Feed X g) (placed : List (Placed HeaderPhrase))
    (k : Option WordOf) → option_map model_keyword k ≡ keyword_of (token_of f).bytes → ReadsToken most i placed [] f
    → IsDraftOf most d (phrases_of placed) → AtFirstToken most i k d f
begun_by most i d f placed None e l h = record { placed = placed; token_read = l; other = sym e; holds = h }
begun_by most i d f placed (Some k) e l h = record { placed = placed; token_read = l; keyword = keyword_is (token_of f).bytes (model_keyword k) (sym e); holds = h }

-- ---- the first and the last

no_codes_yet : (text : List ℕ) (c : Codes) → HasNone c → HasCodes text c []
unfolding codes_of
no_codes_yet text c n = record { held = rw n.no_codes (none_held text); keys = rw (n.no_numbers, n.no_keys) refl; rises = rw n.no_numbers tt; known = tt; seen = λ t. refl; sizes = tt }

no_rows_yet : (text : List ℕ) → AreRows text (codes_of []) [] [] []
no_rows_yet text = tt

no_scopes_yet : enclosing [] ≡ []
unfolding enclosing
no_scopes_yet = refl

pub holds_nothing : (most : ℕ) (d : Draft) → most ≤ 16777216 → IsNew d → IsDraftOf most d []
holds_nothing most d m n = record {
  declares = record {
    codes = no_codes_yet d.text.items d.codes n.no_codes;
    rows = rw n.no_rows (no_rows_yet d.text.items);
    nested = n.no_scopes ∙ ap (λ l. map suc (reverse l)) (sym no_scopes_yet);
    balance = ap (λ (l : List ℕ). length l + 0) no_scopes_yet;
    held = let t = ap length n.no_text in omega arith;
    few = omega arith;
    allowed = m;
  };
  date = n.no_date;
  version = n.no_version;
  scale = ap (option_map (λ (x : Scale). x.exponent)) n.no_scale;
  scaled = subst (λ o. IfSome o (λ (x : Scale). IsExponent x.exponent)) (sym n.no_scale) tt;
}

pub carries_nothing : {X : Type 0} {g : Ghosts X} (most : ℕ) (i : Input) (d : Draft) (f : Feed X g) → most ≤ 16777216 → IsNew d → HasGiven i [] f → DraftsUpTo most i d f
carries_nothing most i d f m n s = record {
  placed = [];
  reads = record {
    given = [];
    stands = s;
    so_far = so_far-nothing
        (header_grammar most);
    last = λ some. absurd (some refl);
  };
  holds = holds_nothing most d m n;
}

pub finished : {X : Type 0} {g : Ghosts X} (most : ℕ) (i : Input) (d : Draft) (f : Feed X g) (r : Result Head HeadFault) → DraftsAll most i d f
    → ((m : ℕ) (ps : List HeaderPhrase) → IsDraftOf m d ps → IfOk r (λ head. Views (shown head) (header_of ps)))
    → IfErr r (λ fault. fault ≡ OutOfMemory) → MatchResult r (λ head. GivesHead most i f (shown head)) (λ fault. Fails most i fault f)
finished most i d f (Ok head)
    a v e = record {
      given = a.reads.given ++ token_of f ∷ [];
      placed = a.placed;
      stands = a.reads.stands;
      whole = a.reads.whole;
      near = read_to_shown i a.reads.given f a.reads.stands;
      front = a.reads.given;
      last = token_of f;
      is = refl;
      going = a.reads.going;
      views = v most
          (phrases_of a.placed) a.holds;
    }
finished most i d f (Err fault) a v e = subst (λ x. Fails most i x f) (sym e) (faultless_whole most i a.placed f a.reads)
