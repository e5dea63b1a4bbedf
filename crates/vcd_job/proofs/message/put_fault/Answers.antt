use Rattle.vcd_job.proofs.Cited.{◌≡◌, ◌++◌, refl, codes, decimal, ℕ, List, [], ◌∷◌, subst, Result, program_line, Device, Puts, WriteFailed, puts-first, puts-twice}
use Rattle.vcd_job.proofs.Facts.{fault-parts}
use Rattle.vcd_job.proofs.message.put_fault.Goals as goal

-- the line is these three texts
as-line : (d d' : Device) (program name text p n t : List ℕ) (digits : List ℕ) (r : Result Unit WriteFailed) → p ≡ program → n ≡ name → t ≡ text
    → Puts d d' ((p ++ (codes ": " ++ (n ++ codes ":"))) ++ (digits ++ (codes ": " ++ (t ++ 10 ∷ [])))) r → Puts d d' (program_line program (name ++ codes ":" ++ digits ++ codes ": " ++ text)) r
as-line d d' program name text p n t digits r ep en et puts = subst (λ (l : List ℕ). Puts d d' l r) (fault-parts program name digits text p n t ep en et) puts

pub returns-in_err-put_texts : goal.returns-in_err-put_texts
returns-in_err-put_texts g c =
    as-line (g.E.Sink.device _) (g.E.Sink.device _) _ _ c.args.text.now _ _ c.args.text.now (decimal c.args.line) c.from_residual.result c.as_bytes.ensures.value c.as_bytes-2.ensures.value refl
    (puts-first (g.E.Sink.device _) (g.E.Sink.device _) _ _ _ c.from_residual.ensures.0 c.in_err-put_texts.ensures)

pub returns-in_err-put_number : goal.returns-in_err-put_number
returns-in_err-put_number g c =
    as-line (g.E.Sink.device _) (g.E.Sink.device _) _ _ c.args.text.now _ _ c.args.text.now
    (decimal c.args.line) c.from_residual-in_err-put_number.result c.as_bytes.ensures.value c.as_bytes-2.ensures.value refl
    (puts-twice (g.E.Sink.device _) (g.E.Sink.device _) (g.E.Sink.device _) _ _ _ c.in_ok-put_texts.ensures
    (puts-first (g.E.Sink.device _) (g.E.Sink.device _) (decimal c.args.line) _ _ c.from_residual-in_err-put_number.ensures.0 c.in_err-put_number.ensures))

pub returns : goal.returns
returns g c =
    as-line (g.E.Sink.device _) (g.E.Sink.device _) _ _ _ _ _ _ (decimal c.args.line) c.put_texts-2.result c.as_bytes.ensures.value c.as_bytes-2.ensures.value c.as_bytes-3.ensures.value
    (puts-twice (g.E.Sink.device _) (g.E.Sink.device _) (g.E.Sink.device _) _ _ _ c.in_ok-put_texts.ensures
    (puts-twice (g.E.Sink.device _) (g.E.Sink.device _) (g.E.Sink.device _) (decimal c.args.line) _ _ c.in_ok-put_number.ensures c.put_texts-2.ensures))
