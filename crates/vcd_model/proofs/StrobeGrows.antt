-- What `strobe` wrote stays if the list of items grows.
use Rattle.vcd_model.proofs.Cited.{◌≡◌, ℕ, List, [], ◌∷◌, ◌++◌, filter_map, refl, sym, ap, ◌∙◌, append_assoc, filter_map-append, concat, each, each_after, BodyItem, Header, IsPrefixOf}
use Rattle.vcd_model.proofs.Growing.{each_after-append}
use Rattle.vcd_model.specs.Strobe.{Clock, edge_at, edge_text, edges_in, strobe_head, strobe_open}

-- the edges in some more items
abbrev pub edges_after : List Clock → List BodyItem → List BodyItem → List (List BodyItem)
edges_after ks p q = filter_map (λ o. o) (each_after (edge_at ks) p q)

pub edges-append : (ks : List Clock) (p q : List BodyItem) → edges_in ks (p ++ q) ≡ edges_in ks p ++ edges_after ks p q
unfolding edges_in
edges-append ks p q =
    ap (λ l. filter_map (λ o. o) l) (each_after-append (edge_at ks) [] p q)
    ∙ filter_map-append (λ o. o) (each (edge_at ks) p) (each_after (edge_at ks) p q)

concat-append : (xs ys : List (List ℕ)) → concat (xs ++ ys) ≡ concat xs ++ concat ys
concat-append [] ys = refl
concat-append (x ∷ xs) ys = ap (λ l. x ++ l) (concat-append xs ys) ∙ sym (append_assoc x (concat xs) (concat ys))

-- the lines of some more items
abbrev pub lines_after : List Clock → Header → List (List ℕ) → List BodyItem → List BodyItem → List ℕ
lines_after ks h names p q = concat (each_after (edge_text h names) (edges_in ks p) (edges_after ks p q))

pub strobe-append : (ks : List Clock) (h : Header) (names : List (List ℕ)) (p q : List BodyItem) → strobe_open ks h names (p ++ q) ≡ strobe_open ks h names p ++ lines_after ks h names p q
unfolding strobe_open
strobe-append ks h names p q =
    ap (λ es. strobe_head h names ++ concat (each (edge_text h names) es)) (edges-append ks p q)
    ∙ ap (λ l. strobe_head h names ++ concat l) (each_after-append (edge_text h names) [] (edges_in ks p) (edges_after ks p q))
    ∙ ap (λ l. strobe_head h names ++ l) (concat-append (each (edge_text h names) (edges_in ks p)) (each_after (edge_text h names) (edges_in ks p) (edges_after ks p q)))
    ∙ sym (append_assoc (strobe_head h names) (concat (each (edge_text h names) (edges_in ks p))) (lines_after ks h names p q))

pub strobe_grows : (ks : List Clock) (h : Header) (names : List (List ℕ)) (p q : List BodyItem) → IsPrefixOf (strobe_open ks h names p) (strobe_open ks h names (p ++ q))
strobe_grows ks h names p q = (lines_after ks h names p q, strobe-append ks h names p q)
