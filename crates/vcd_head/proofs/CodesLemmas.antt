-- The distinct codes while a header is read.
use Rattle.vcd_head.proofs.Cited.{◌≡◌, ℕ, Bool, true, false, cond, List, [], ◌∷◌, ◌++◌, map, find, bytes_eq, Some, None, refl, sym, ◌∙◌, AllByRecursion, option_or, find-append, none-some, IdCode, has_text, Code, AreHeld, IsCode, AreBytes, all_push, all_zip_push, bytes_flip}
use Rattle.std.specs.List.{IsDistinct}

-- ---- what is found

pub find_more : (cs : List IdCode) (t : List ℕ) (c : IdCode) → find (has_text t) (cs ++ c ∷ []) ≡ option_or (find (has_text t) cs) (cond (has_text t c) (Some c) None)
find_more cs t c = find-append (has_text t) cs (c ∷ [])

-- ---- codes that are held

distinct_more : (cs : List IdCode) (k : IdCode) → IsDistinct bytes_eq (map (λ (c : IdCode). c.text) cs) → find (has_text k.text) cs ≡ None
    → IsDistinct bytes_eq (map (λ (c : IdCode). c.text) (cs ++ k ∷ []))
unfolding IsDistinct
distinct_more [] k d f = (tt, tt)
distinct_more (x ∷ cs) k d f = by_text (bytes_eq k.text x.text) refl f (distinct_more cs k d.1)
  where
    apart : (ys : List IdCode) → AllByRecursion (λ y. bytes_eq x.text y ≡ false) (map (λ (c : IdCode). c.text) ys) → bytes_eq x.text k.text ≡ false
        → AllByRecursion (λ y. bytes_eq x.text y ≡ false) (map (λ (c : IdCode). c.text) (ys ++ k ∷ []))
    apart [] h e = (e, tt)
    apart (y ∷ ys) h e = (h.0, apart ys h.1 e)

    by_text : (b : Bool) → bytes_eq k.text x.text ≡ b → cond b (Some x) (find (has_text k.text) cs) ≡ None
        → (find (has_text k.text) cs ≡ None → IsDistinct bytes_eq (map (λ (c : IdCode). c.text) (cs ++ k ∷ [])))
        → AllByRecursion (λ y. bytes_eq x.text y ≡ false) (map (λ (c : IdCode). c.text) (cs ++ k ∷ [])) × IsDistinct bytes_eq (map (λ (c : IdCode). c.text) (cs ++ k ∷ []))
    by_text true q e more = absurd (none-some x (sym e))
    by_text false q e more = (apart cs d.0 (bytes_flip x.text k.text ∙ q), more e)

pub held_more : (text : List ℕ) (list : List Code) (cs : List IdCode) (c : Code) (k : IdCode) → AreHeld text list cs → IsCode text c k
    → AreBytes k.text → find (has_text k.text) cs ≡ None → AreHeld text (list ++ c ∷ []) (cs ++ k ∷ [])
held_more text list cs c k h is bytes f = record {
  stand = all_zip_push (IsCode text) list cs c k h.stand is;
  distinct = distinct_more cs k h.distinct f;
  texts = all_push (λ (x : IdCode). AreBytes x.text) cs k h.texts bytes;
}

pub none_held : (text : List ℕ) → AreHeld text [] []
unfolding IsDistinct
none_held text = record { stand = tt; distinct = tt; texts = tt }
