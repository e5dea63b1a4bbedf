use Rattle.vcd_text_tests.proofs.text.reports_after.Goals as goal

pub resume-feed-requires-clause-fits : goal.resume-feed-requires-clause-fits
resume-feed-requires-clause-fits c = c.parked_after.ensures.fits _ _
