-- A count that is one more is made of no bytes.
use Rattle.std.proofs.Common.{◌+◌, [], ◌∷◌, refl}
use Rattle.std.proofs.raw_atomic.Walks.{proved}
use base.Fml.{Fml}
use mir.Val.{Val, vstruct, vcons, vnil}
use contract.Running.{tables}
use types.Kit.{‵, raw, ◌⊛◌, ◌$◌, ◌∵◌, !, qed, move, keep, split, join, fjoin, use0, suffices, done}
use types.Run.{no_more, and_then, returns, enter}
use types.Part.{agg}
use types.ByLocal.{alloc_all, pass_all, free_all, look_at, get, sets}
use denote.Signature.{types_at, type_at, plain}
use denote.RattleType.{RattleType, owns}
use denote.Builtin.{RefOf}
use denote.Exit.{yes}
use denote.Ref.{shr_vals}
use Rattle.vcd_view.specs.contracts.probes.Probes as Probes
use denote.Shadow.{makes_shadow}
use denote.Steps.{nothing}
use denote.Triple.Entry.{alive}
use denote.Triple.Walked.{says, Stays, stay_dropped, Goes-dropped, walk_of, ends_at}
use Rattle.vcd_view.specs.contracts.probes.Probes.after_one as f
use Rattle.vcd_view.proofs.probes.Probes.after_one.Statement.{statement}
use Rattle.vcd_view.proofs.probes.Probes.after_one.Code as code

abbrev R : RattleType
R = Probes.the_row

abbrev stayed : Stays f.ended.signature.params f.ended.kept
stayed = (stay_dropped (RefOf (0 ∷ []) tt (plain (λ _. R)) (λ _. tt)) yes, tt)

pub after_one_spec : {M : Type 1} → statement M
after_one_spec 𝓤 𝓛 𝓜 𝓡 wired =
    let c = f.clauses 𝓛 𝓜.mem 𝓡.returns in let W = walk_of 𝓛 f.ended stayed c in let 𝓣 = tables 𝓤 𝓛.H 𝓜 𝓡 𝓡.env in
    proved 𝓛 f.ended stayed c 𝓜 𝓡 (Goes-dropped 𝓛 1 (RefOf (0 ∷ []) tt (plain (λ _. R)) (λ _. tt)) yes (λ κs x w. refl), tt) f.Key.name code.function
    (code.unfolded 𝓤 𝓛.H 𝓜 𝓡 wired) (λ κs. (shr_vals, tt)) (λ κs. ((λ r vs s. s.0), tt)) (λ κs qs bounds a n are.
    let y : W.Ghost = ((κs, qs, bounds, a, (shr_vals a.0, tt)), tt) in
    let v : Val = vstruct (vcons (vstruct vnil) vnil) in let r : denote.Triple.Entry.Res f.ended.signature κs = record { marker = record {}; count = a.0.now.count + 1 } in
    let O : Fml = (type_at f.ended.signature.result κs).own_val r (v ∷ []) in
    qed 𝓛 ((raw (alive 𝓛 f.ended.signature κs qs) ⊛ ‵ (owns (types_at f.ended.signature.params κs) a (shr_vals a.0, tt))) ∷ raw
    ((c κs a).requires n) ∷ []) ∵ split ! $ keep ! (0 ∷ []) $
    enter ! _ _ _ _ _ $ alloc_all ! (λ l. pass_all ! refl ((tt, tt), tt) $
    sets ! (agg ! (no_more !)) refl (tt, tt) $ sets ! (agg ! (and_then ! (get ! refl) (no_more !))) refl (tt, (tt, tt)) $
    returns ! (look_at ! 0 refl) $ free_all ! refl $
    use0 𝓛 (‵ O) (makes_shadow 𝓛 O ((λ vss. (tt, ((λ uss. (tt, tt)), tt))), tt) (((vstruct vnil ∷ [], tt), (refl, ((tt, (refl, tt)), tt))), tt)) $
    suffices ! _ (ends_at 𝓛 f.ended stayed c y v r (tt, tt) (tt, tt)) $ says ! refl $
    nothing ! $ nothing ! $ fjoin ! $ join ! $ move ! (1 ∷ 0 ∷ []) $ join ! $ done !))
