-- What the checker makes of each entry's own clauses in src/: `F.clauses`, and `F.ended` of its signature. A row for each entry says that it asks nothing of its
-- caller and leaves one answer only; rows of `Cited` say that the clause is the equation with the very definition that the demands speak of. A weaker `ensures`, or
-- a `requires`, in a crate's src/ breaks the row's proof here. Definitions only.
use Rattle.std.specs.Prelude.{◌≡◌, List, [], ℕ, Float}
use base.Logic.{SProp, ent, emp}
use prog.Memory.{Memory}
use prog.Routine.{Routine}
use types.Logic.{Logic}
use contract.Lifetimes.{Lfts}
use contract.Monad.{Fun, conj, fact}
use denote.RattleType.{RattleType}
use denote.Triple.Entry.{Args, Res}
use denote.Triple.Clauses.{Ended, Clauses, Lasts, at_exit}
use borrow.Fn.World.{World, Pr}
use Rattle.laws.specs.contracts.passes_6
use Rattle.laws.specs.contracts.passes_7
use Rattle.laws.specs.contracts.first_failing_6
use Rattle.laws.specs.contracts.first_failing_7
use Rattle.complex.specs.contracts.Complex.new
use Rattle.complex.specs.contracts.Complex.scaled
use Rattle.complex.specs.contracts.ComplexAdd.add
use Rattle.complex.specs.contracts.ComplexSub.sub
use Rattle.complex.specs.contracts.ComplexMul.mul
use Rattle.config.specs.contracts.valid
use Rattle.config.specs.contracts.nf
use Rattle.config.specs.contracts.z
use Rattle.config.specs.contracts.ne
use Rattle.config.specs.contracts.nb
use Rattle.config.specs.contracts.rate
use Rattle.config.specs.contracts.duration
use Rattle.config.specs.contracts.upper
use Rattle.config.specs.contracts.half
use Rattle.config.specs.contracts.edges
use Rattle.config.specs.contracts.is_fft_size
use Rattle.config.specs.contracts.is_dct_length
use Rattle.refusals.specs.contracts.Refusal.number
use Rattle.refusals.specs.contracts.Refusal.index
use Rattle.refusals.specs.contracts.VerdictFromResultUnitRefusal.from as verdict_from
use Rattle.refusals.specs.contracts.on_clear
use Rattle.refusals.specs.contracts.on_values
use Rattle.refusals.specs.contracts.on_energies
use Rattle.windows.specs.contracts.window
use Rattle.twiddles.specs.contracts.dct as dct_twiddles
use Rattle.gains.specs.contracts.gain
use Rattle.twiddles.specs.contracts.negate
use Rattle.columns.specs.contracts.two
use Rattle.columns.specs.contracts.three
use Rattle.columns.specs.contracts.four
use Rattle.columns.specs.contracts.five
use Rattle.quads.specs.contracts.Radix2Radix2.turned as turned_2
use Rattle.quads.specs.contracts.Radix2Radix2.part as part_2
use Rattle.quads.specs.contracts.Radix3Radix3.turned as turned_3
use Rattle.quads.specs.contracts.Radix3Radix3.part as part_3
use Rattle.quads.specs.contracts.Radix4Radix4.turned as turned_4
use Rattle.fft_tables.specs.contracts.packed
use Rattle.fft_tables.specs.contracts.plan
use Rattle.kissfft.specs.contracts.fft
use Rattle.dct_iv.specs.contracts.dct_iv
use Rattle.analysis_steps.specs.contracts.silence_300
use Rattle.analysis_steps.specs.contracts.scale
use Rattle.measurement_steps.specs.contracts.total
use Rattle.synthesis_steps.specs.contracts.zeros
use Rattle.analysis.specs.contracts.clear as analysis_clear
use Rattle.analysis.specs.contracts.Channel.frame as analysis_frame
use Rattle.analysis.specs.contracts.frame_at as analysis_frame_at
use Rattle.measurement.specs.contracts.measure
use Rattle.synthesis.specs.contracts.clear as synthesis_clear
use Rattle.synthesis.specs.contracts.Channel.frame as synthesis_frame
use Rattle.synthesis.specs.contracts.frame_at as synthesis_frame_at
use Rattle.loudest.specs.contracts.loudest_band
use Rattle.near_nyquist.specs.contracts.near_nyquist
use Rattle.plain_text.specs.contracts.digit
use Rattle.frame_file.specs.contracts.join
use Rattle.frame_file.specs.contracts.read_header
use Rattle.frame_file.specs.contracts.read_record
use Rattle.frame_file.specs.contracts.sample
use Rattle.listing.specs.contracts.open
use Rattle.listing.specs.contracts.Lister.step
use Rattle.listing.specs.contracts.Lister.wanted
use Rattle.listing.specs.contracts.line.Text.size
use Rattle.call_log.specs.contracts.byte_at
use Rattle.call_log.specs.contracts.rest
use Rattle.call_log.specs.contracts.short
use Rattle.call_log.specs.contracts.word
use Rattle.call_log.specs.contracts.count
use Rattle.call_log.specs.contracts.count_places
use Rattle.call_log.specs.contracts.samples
use Rattle.call_log.specs.contracts.floats
use Rattle.call_log.specs.contracts.area
use Rattle.call_log.specs.contracts.peaks
use Rattle.call_log.specs.contracts.read_header as read_log_header
use Rattle.call_log.specs.contracts.call_taken
use Rattle.call_text.specs.contracts.put_call
use Rattle.call_text.specs.contracts.put_show
use Rattle.call_text.specs.contracts.put_last
use Rattle.call_made.specs.contracts.fresh
use Rattle.call_made.specs.contracts.Bench.made
use Rattle.c_api.specs.contracts.AnalysisAnsweredFromAnsweredAnalysisChannel.from as analysis_answered_from
use Rattle.c_api.specs.contracts.SynthesisClearedFromAnsweredSynthesisChannel.from as synthesis_cleared_from
use Rattle.c_api.specs.contracts.MeasuredFromResultBoolRefusal.from as measured_from
use Rattle.c_api.specs.contracts.LoudestHeardFromResultLoudestRefusal.from as loudest_heard_from
use Rattle.c_api.specs.contracts.AskedFromResultSoonerRefusal.from as asked_from
use Rattle.c_api.specs.contracts.loamscarf_fft
use Rattle.c_api.specs.contracts.loamscarf_dct_iv
use Rattle.c_api.specs.contracts.loamscarf_analysis_clear
use Rattle.c_api.specs.contracts.loamscarf_analysis_frame
use Rattle.c_api.specs.contracts.loamscarf_analysis_frame_at
use Rattle.c_api.specs.contracts.loamscarf_measure
use Rattle.c_api.specs.contracts.loamscarf_synthesis_clear
use Rattle.c_api.specs.contracts.loamscarf_synthesis_frame
use Rattle.c_api.specs.contracts.loamscarf_synthesis_frame_at
use Rattle.c_api.specs.contracts.loamscarf_loudest_band
use Rattle.c_api.specs.contracts.loamscarf_near_nyquist
use Rattle.kissfft.specs.Fft as kissfft
use Rattle.dct_iv.specs.DctIv as dct
use Rattle.analysis.specs.Analysis as analysis
use Rattle.measurement.specs.Measurement as measurement
use Rattle.synthesis.specs.Synthesis as synthesis
use Rattle.refusals.specs.Refusals.{told_by}
use Rattle.loudest.specs.Loudest.{heard, outcome as heard_by}
use Rattle.near_nyquist.specs.Sooner.{asked, outcome as asked_by}
use Rattle.listing.specs.Steps as steps

-- what a call on the arguments a gives: the return, and what each slice lent for writing holds at exit
abbrev pub Answer : (T : Ended) (κs : Lfts T.signature.lifetimes) → Args T.signature κs → Type 0
Answer T κs a = Res T.signature κs × Lasts T κs a

-- at a model w of the logic, c is the contract of a function with the signature T
module _ (w : World) (T : Ended) (c : Logic w.𝓤 → (Memory → SProp w.𝓤) → (Routine → Fun w.𝓤) → Clauses w.𝓤 T) where
  abbrev pub here : Clauses w.𝓤 T
  here = c w.𝓛 w.𝓜.mem w.𝓡.run

  -- what its `ensures` says of an answer x to the call on a
  abbrev pub says : (κs : Lfts T.signature.lifetimes) (a : Args T.signature κs) → (here κs a).ghost → Answer T κs a → Pr w
  says κs a g x = (here κs a).ensures g x.0 (at_exit T κs a x.1)

  -- a call wants no ghost value that it could not have, and its `requires` holds of every call, out of nothing
  abbrev pub AsksNothing : Type 1
  AsksNothing = (κs : Lfts T.signature.lifetimes) (a : Args T.signature κs) → (here κs a).ghost × ((g : (here κs a).ghost) → ent w.𝓤 (emp w.𝓤) ((here κs a).requires g))

  -- where its `ensures` holds of two answers to one call, what they show is equal
  abbrev pub OneAnswerOf : (X : (κs : Lfts T.signature.lifetimes) → Args T.signature κs → Type 0)
      → ((κs : Lfts T.signature.lifetimes) (a : Args T.signature κs) → Answer T κs a → X κs a) → Type 1
  OneAnswerOf X show = (κs : Lfts T.signature.lifetimes) (a : Args T.signature κs) (g : (here κs a).ghost) (x y : Answer T κs a)
      → ent w.𝓤 (conj w.𝓤 (says κs a g x) (says κs a g y)) (fact w.𝓤 (show κs a x ≡ show κs a y))

  -- the answers are equal
  abbrev pub OneAnswer : Type 1
  OneAnswer = OneAnswerOf (Answer T) (λ κs a x. x)

  -- what is promised of every entry
  abbrev pub Entry : Type 1
  Entry = AsksNothing × OneAnswer

  -- its `ensures` is this fact of the answer, no more and no less
  abbrev pub Says : ((κs : Lfts T.signature.lifetimes) (a : Args T.signature κs) → Answer T κs a → Type 0) → Type 2
  Says φ = (κs : Lfts T.signature.lifetimes) (a : Args T.signature κs) (g : (here κs a).ghost) (x : Answer T κs a) → says κs a g x ≡ fact w.𝓤 (φ κs a x)

pub record Entries (w : World) : Type 1 where
  -- laws
  pub passes_6 : Entry w passes_6.ended passes_6.clauses
  pub passes_7 : Entry w passes_7.ended passes_7.clauses
  pub first_failing_6 : Entry w first_failing_6.ended first_failing_6.clauses
  pub first_failing_7 : Entry w first_failing_7.ended first_failing_7.clauses
  -- complex, methods and operators of Complex
  pub new : Entry w new.ended new.clauses
  pub add : Entry w add.ended add.clauses
  pub sub : Entry w sub.ended sub.clauses
  pub mul : Entry w mul.ended mul.clauses
  pub scaled : Entry w scaled.ended scaled.clauses
  -- config
  pub valid : Entry w valid.ended valid.clauses
  pub nf : Entry w nf.ended nf.clauses
  pub z : Entry w z.ended z.clauses
  pub ne : Entry w ne.ended ne.clauses
  pub nb : Entry w nb.ended nb.clauses
  pub rate : Entry w rate.ended rate.clauses
  pub duration : Entry w duration.ended duration.clauses
  pub upper : Entry w upper.ended upper.clauses
  pub half : Entry w half.ended half.clauses
  pub edges : AsksNothing w edges.ended edges.clauses × OneAnswerOf w edges.ended edges.clauses (λ κs a. List ℕ) (λ κs a x. x.0.now)
  pub is_fft_size : Entry w is_fft_size.ended is_fft_size.clauses
  pub is_dct_length : Entry w is_dct_length.ended is_dct_length.clauses
  -- refusals
  pub number : Entry w number.ended number.clauses
  pub index : Entry w index.ended index.clauses
  pub verdict_from : Entry w verdict_from.ended verdict_from.clauses
  pub on_clear : Entry w on_clear.ended on_clear.clauses
  pub on_values : Entry w on_values.ended on_values.clauses
  pub on_energies : Entry w on_energies.ended on_energies.clauses
  -- windows
  pub window : AsksNothing w window.ended window.clauses × OneAnswerOf w window.ended window.clauses (λ κs a. List ℕ) (λ κs a x. x.0.now)
  -- twiddles
  pub dct_twiddles : AsksNothing w dct_twiddles.ended dct_twiddles.clauses × OneAnswerOf w dct_twiddles.ended dct_twiddles.clauses (λ κs a. List Float) (λ κs a x. x.0.now)
  pub negate : Entry w negate.ended negate.clauses
  -- gains
  pub gain : Entry w gain.ended gain.clauses
  -- columns
  pub two : Entry w two.ended two.clauses
  pub three : Entry w three.ended three.clauses
  pub four : Entry w four.ended four.clauses
  pub five : Entry w five.ended five.clauses
  -- quads, methods of Radix2, Radix3 and Radix4
  pub turned_2 : Entry w turned_2.ended turned_2.clauses
  pub part_2 : Entry w part_2.ended part_2.clauses
  pub turned_3 : Entry w turned_3.ended turned_3.clauses
  pub part_3 : Entry w part_3.ended part_3.clauses
  pub turned_4 : Entry w turned_4.ended turned_4.clauses
  -- fft_tables
  pub packed : AsksNothing w packed.ended packed.clauses × OneAnswerOf w packed.ended packed.clauses (λ κs a. List Float) (λ κs a x. x.0.now)
  pub plan : AsksNothing w plan.ended plan.clauses × OneAnswerOf w plan.ended plan.clauses (λ κs a. List ℕ) (λ κs a x. x.0.now)
  -- kissfft
  pub fft : Entry w fft.ended fft.clauses
  -- dct_iv
  pub dct_iv : Entry w dct_iv.ended dct_iv.clauses
  -- analysis_steps, measurement_steps and synthesis_steps: the steps that ask nothing
  pub silence_300 : Entry w silence_300.ended silence_300.clauses
  pub scale : Entry w scale.ended scale.clauses
  pub total : Entry w total.ended total.clauses
  pub zeros : Entry w zeros.ended zeros.clauses
  -- analysis
  pub analysis_clear : Entry w analysis_clear.ended analysis_clear.clauses
  pub analysis_frame : Entry w analysis_frame.ended analysis_frame.clauses
  pub analysis_frame_at : Entry w analysis_frame_at.ended analysis_frame_at.clauses
  -- measurement
  pub measure : Entry w measure.ended measure.clauses
  -- synthesis
  pub synthesis_clear : Entry w synthesis_clear.ended synthesis_clear.clauses
  pub synthesis_frame : Entry w synthesis_frame.ended synthesis_frame.clauses
  pub synthesis_frame_at : Entry w synthesis_frame_at.ended synthesis_frame_at.clauses
  -- loudest
  pub loudest_band : Entry w loudest_band.ended loudest_band.clauses
  -- near_nyquist
  pub near_nyquist : Entry w near_nyquist.ended near_nyquist.clauses
  -- plain_text
  pub digit : Entry w digit.ended digit.clauses
  -- frame_file
  pub join : Entry w join.ended join.clauses
  pub read_header : Entry w read_header.ended read_header.clauses
  pub read_record : Entry w read_record.ended read_record.clauses
  pub sample : Entry w sample.ended sample.clauses
  -- listing
  pub opened : Entry w open.ended open.clauses
  pub step : Entry w step.ended step.clauses
  pub wanted : Entry w wanted.ended wanted.clauses
  pub size : Entry w size.ended size.clauses
  -- call_log
  pub byte_at : Entry w byte_at.ended byte_at.clauses
  -- the bytes of the slice that is returned; where they lie is not said
  pub rest : AsksNothing w rest.ended rest.clauses × OneAnswerOf w rest.ended rest.clauses (λ κs a. List ℕ) (λ κs a x. x.0.now)
  pub short : Entry w short.ended short.clauses
  pub word : Entry w word.ended word.clauses
  pub count : Entry w count.ended count.clauses
  -- of any type whose values name no lifetime
  pub count_places : (T : RattleType) → T.lives ≡ [] → Entry w (count_places.ended T) (count_places.clauses T)
  pub samples : Entry w samples.ended samples.clauses
  pub floats : Entry w floats.ended floats.clauses
  pub area : Entry w area.ended area.clauses
  pub peaks : Entry w peaks.ended peaks.clauses
  pub read_log_header : Entry w read_log_header.ended read_log_header.clauses
  pub call_taken : Entry w call_taken.ended call_taken.clauses
  -- call_text
  pub put_call : Entry w put_call.ended put_call.clauses
  pub put_show : Entry w put_show.ended put_show.clauses
  pub put_last : Entry w put_last.ended put_last.clauses
  -- call_made
  pub fresh : Entry w fresh.ended fresh.clauses
  pub made : Entry w made.ended made.clauses
  -- c_api: what makes each of its structs from an answer, and the exports
  pub analysis_answered_from : Entry w analysis_answered_from.ended analysis_answered_from.clauses
  pub synthesis_cleared_from : Entry w synthesis_cleared_from.ended synthesis_cleared_from.clauses
  pub measured_from : Entry w measured_from.ended measured_from.clauses
  pub loudest_heard_from : Entry w loudest_heard_from.ended loudest_heard_from.clauses
  pub asked_from : Entry w asked_from.ended asked_from.clauses
  pub c_fft : Entry w loamscarf_fft.ended loamscarf_fft.clauses
  pub c_dct_iv : Entry w loamscarf_dct_iv.ended loamscarf_dct_iv.clauses
  pub c_analysis_clear : Entry w loamscarf_analysis_clear.ended loamscarf_analysis_clear.clauses
  pub c_analysis_frame : Entry w loamscarf_analysis_frame.ended loamscarf_analysis_frame.clauses
  pub c_analysis_frame_at : Entry w loamscarf_analysis_frame_at.ended loamscarf_analysis_frame_at.clauses
  pub c_measure : Entry w loamscarf_measure.ended loamscarf_measure.clauses
  pub c_synthesis_clear : Entry w loamscarf_synthesis_clear.ended loamscarf_synthesis_clear.clauses
  pub c_synthesis_frame : Entry w loamscarf_synthesis_frame.ended loamscarf_synthesis_frame.clauses
  pub c_synthesis_frame_at : Entry w loamscarf_synthesis_frame_at.ended loamscarf_synthesis_frame_at.clauses
  pub c_loudest_band : Entry w loamscarf_loudest_band.ended loamscarf_loudest_band.clauses
  pub c_near_nyquist : Entry w loamscarf_near_nyquist.ended loamscarf_near_nyquist.clauses

-- The clauses that the demands and the listing's theorem stand on. a.0 is the first argument of a call, a.1.0 the second, and so on; x.0 is the return, and
-- x.1 holds, in the arguments' places, what the slices lent for writing hold at exit.
pub record Cited (w : World) : Type 2 where
  -- kissfft: `fft` gives `answer`
  pub fft : Says w fft.ended fft.clauses
      (λ κs a x. kissfft.outcome (told_by x.0) x.1.1.1.1.1.0 x.1.1.1.1.1.1.0 ≡ kissfft.answer a.0 a.1.0 a.1.1.0.now a.1.1.1.0.now a.1.1.1.1.0.now a.1.1.1.1.1.0.now)
  -- dct_iv: `dct_iv` gives `answer`
  pub dct_iv : Says w dct_iv.ended dct_iv.clauses (λ κs a x. dct.outcome (told_by x.0) x.1.1.0 ≡ dct.answer a.0 a.1.0.now)
  -- analysis: `clear` gives `cleared`, `frame` gives `frames`, and so does `frame_at`, on the channel that is lent
  pub analysis_clear : Says w analysis_clear.ended analysis_clear.clauses (λ κs a x. analysis.cleared_by x.0 ≡ analysis.cleared a.0)
  pub analysis_frame : Says w analysis_frame.ended analysis_frame.clauses
      (λ κs a x. analysis.frames a.0 (analysis.lent a.1.0.now a.1.1.0.now) ≡ analysis.outcome x.0 x.1.1.1.0)
  pub analysis_frame_at : Says w analysis_frame_at.ended analysis_frame_at.clauses
      (λ κs a x. analysis.frames (analysis.channel_of a.0 a.1.0.now) (analysis.lent a.1.1.0.now a.1.1.1.0.now)
      ≡ analysis.outcome_at a.0 x.0 x.1.1.0 x.1.1.1.1.0)
  -- measurement: `measure` gives `measures`
  pub measure : Says w measure.ended measure.clauses
      (λ κs a x. measurement.outcome x.0 x.1.1.1.0 x.1.1.1.1.0 ≡ measurement.measures a.0 (measurement.lent a.1.0.now a.1.1.0.now a.1.1.1.0.now))
  -- synthesis, alike
  pub synthesis_clear : Says w synthesis_clear.ended synthesis_clear.clauses (λ κs a x. synthesis.cleared_by x.0 ≡ synthesis.cleared a.0)
  pub synthesis_frame : Says w synthesis_frame.ended synthesis_frame.clauses
      (λ κs a x. synthesis.frames a.0 (synthesis.lent a.1.0.now a.1.1.0.now) ≡ synthesis.outcome x.0 x.1.1.1.0)
  pub synthesis_frame_at : Says w synthesis_frame_at.ended synthesis_frame_at.clauses
      (λ κs a x. synthesis.frames (synthesis.channel_of a.0 a.1.0.now) (synthesis.lent a.1.1.0.now a.1.1.1.0.now)
      ≡ synthesis.outcome_at a.0 x.0 x.1.1.0 x.1.1.1.1.0)
  -- loudest: `loudest_band` gives `heard`
  pub loudest_band : Says w loudest_band.ended loudest_band.clauses (λ κs a x. heard_by x.0 ≡ heard a.0 a.1.0.now)
  -- near_nyquist: `near_nyquist` gives `asked`
  pub near_nyquist : Says w near_nyquist.ended near_nyquist.clauses (λ κs a x. asked_by x.0 ≡ asked a.0 a.1.0.now)
  -- listing: `open` gives `opening`, `step` gives `step`
  pub opened : Says w open.ended open.clauses (λ κs a x. x.0 ≡ steps.opening a.0.now)
  pub step : Says w step.ended step.clauses (λ κs a x. x.0 ≡ steps.step a.0 a.1.0.now)
