-- `analysis_lines::lines_of` meets its contract: a configuration's lengths and window are what the fold asks, and what fold, DCT and gain ensure, one after the
-- other. Assumes nothing.
use mathlib.Core.Path.{sym, ap, subst, ◌∙◌}
use native.Mathlib.Omega.{arith}
use lib.ListN.{length}
use Rattle.config.proofs.Sound.{sound}
use Rattle.windows.specs.Windows.{Numbers}
use Rattle.windows.proofs.Entries.{window_length, window_numbers}
use Rattle.analysis_lines.proofs.Made.{dct_takes, made_fold, made-lines}
use Rattle.analysis_lines.proofs.lines_of.Goals as goal

pub fold-requires : goal.fold-requires
fold-requires c =
    let a = c.args in
    let p = c.requires in
    let w = c.window.ensures in
    let s = sound a.c p.0 in (
      omega arith,
      omega arith,
      omega arith,
      omega arith,
      omega arith,
      ap length w ∙ window_length a.c p.0 ∙ omega arith,
      subst Numbers (sym w) (window_numbers a.c p.0),
    )

pub run-requires : goal.run-requires
run-requires c = dct_takes c.args.c (length c.fold.new.out) c.requires.0 (omega arith)

pub returns : goal.returns
returns c =
    let a = c.args in
    let p = c.requires in
    let fold = made_fold a.c (length a.lines.now) a.past.now a.input.now p.0 p.1 p.3 c.window.ensures c.fold.ensures in
    made-lines a.c (length c.run.new.buf) a.past.now a.input.now fold c.run.ensures c.gain.ensures (omega arith) c.scale.ensures
