-- What is asked for if memory runs out, since the words were checked before; and a bad token limit.
use Rattle.vcd_strobe_words.proofs.Cited.{◌≡◌, ◌∙◌, [], ℕ, HasFault, IsOfWords, List, limit_asked, strobe_asked, text_of, use_text, word_of, Option, Result, Ok, Err, ap, ap₂, codes, sym, unwrap_or, Bor, Text, ArgMatches, ModelClockName, UseFault, OutOfMemory, Strobing, Asks, all_of, clocks_asked, clocks_or_fault, some_names, strobe_with, texts_of, words_of}

given : (m : ArgMatches) (rises falls : Option (Bor (List (Bor Text)))) → texts_of rises ≡ words_of m (codes "rise") → texts_of falls ≡ words_of m (codes "fall")
    → clocks_or_fault (clocks_asked (some_names rises) (some_names falls))
    ≡ clocks_or_fault (clocks_asked (all_of m (codes "rise")) (all_of m (codes "fall")))
given m rises falls rise fall = ap₂ (λ (a b : Option (List Text)). clocks_or_fault (clocks_asked (unwrap_or a []) (unwrap_or b []))) rise fall

pub no-memory : (m : ArgMatches) (rises falls : Option (Bor (List (Bor Text)))) (word : Option (Bor Text)) (clocks : List ModelClockName) (limit : ℕ) (r : Result Strobing UseFault)
    → texts_of rises ≡ words_of m (codes "rise") → texts_of falls ≡ words_of m (codes "fall") → text_of word ≡ word_of m (codes "token-limit")
    → clocks_or_fault (clocks_asked (some_names rises) (some_names falls)) ≡ Ok clocks → limit_asked (text_of word) ≡ Ok limit → r ≡ Err OutOfMemory → Asks m r
no-memory m rises falls word clocks limit r rise fall told checked good e =
    rw e (_, ap₂ (strobe_with (all_of m (codes "names"))) (sym (given m rises falls rise fall) ∙ checked) (ap limit_asked (sym told) ∙ good))

-- what is said of a fault of words
asks-fault : (m : ArgMatches) (fault : UseFault) → IsOfWords fault → strobe_asked m ≡ Err (use_text fault) → Asks m (Err fault)
asks-fault m OutOfMemory words e = absurd words
asks-fault m fault words e = e

pub bad-limit : (m : ArgMatches) (rises falls : Option (Bor (List (Bor Text)))) (word : Option (Bor Text)) (clocks : List ModelClockName) (fault : UseFault) (r : Result Strobing UseFault)
    → texts_of rises ≡ words_of m (codes "rise") → texts_of falls ≡ words_of m (codes "fall") → text_of word ≡ word_of m (codes "token-limit")
    → clocks_or_fault (clocks_asked (some_names rises) (some_names falls)) ≡ Ok clocks → HasFault fault (limit_asked (text_of word)) → r ≡ Err fault → Asks m r
bad-limit m rises falls word clocks fault r rise fall told checked bad e =
    rw e (asks-fault m fault bad.0 (ap₂ (strobe_with (all_of m (codes "names"))) (sym (given m rises falls rise fall) ∙ checked) (ap limit_asked (sym told) ∙ bad.1)))
