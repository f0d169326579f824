-- Every entry asks nothing and has one answer only: its `requires` is empty, its `ensures` is an equation, and the answer is read off one side of it. Assumes nothing.
use mathlib.Core.Path.{◌≡◌, refl, sym, ap, ◌∙◌, subst}
use base.Fml.{Lft}
use base.Logic.{ent, emp, id⊢, sep, fst∗, via, emp∗, mono_l}
use contract.BorrowLft.{◌⊑◌, ⊑_static}
use contract.Monad.{conj, conj_l, conj_r, conj_mono, fact, fact_i, fact_use}
use borrow.Fn.World.{World, Pr}
use Rattle.std.specs.Prelude.{ℕ, ⊤, Result}
use Rattle.refusals.specs.declared.Verdict.{Verdict}
use Rattle.refusals.specs.declared.Refusal.{Refusal}
use Rattle.refusals.specs.declared.Answered.{Answered}
use Rattle.refusals.specs.Refusals.{told_by}
use Rattle.refusals.proofs.Verdicts.{told-injective, number-injective}
use Rattle.kissfft.specs.Fft as kissfft
use Rattle.dct_iv.specs.DctIv as dct
use Rattle.analysis.specs.declared.Channel as analysis_channel
use Rattle.analysis.specs.Analysis as analysis
use Rattle.measurement.specs.Measurement as measurement
use Rattle.synthesis.specs.declared.Channel as synthesis_channel
use Rattle.synthesis.specs.Synthesis as synthesis
use Rattle.analysis.proofs.Frames as analysis_frames
use Rattle.measurement.proofs.Verdicts as measurement_verdicts
use Rattle.synthesis.proofs.Frames as synthesis_frames
use Rattle.loudest.specs.Loudest as loudest
use Rattle.loudest.proofs.Answers as loudest_answers
use Rattle.near_nyquist.specs.Sooner as sooner
use Rattle.near_nyquist.proofs.Answers as sooner_answers
use Rattle.call_text.specs.Page as pages
use Rattle.promises.specs.Entries.{Entries, Cited}

module _ (w : World) where
  -- nothing is asked
  free : Unit {0} × (Unit {0} → ent w.𝓤 (emp w.𝓤) (emp w.𝓤))
  free = (tt, λ g. id⊢ w.𝓤 (emp w.𝓤))

  -- nothing but a fact that holds
  free_where : {φ : Type 0} → φ → Unit {0} × (Unit {0} → ent w.𝓤 (emp w.𝓤) (sep w.𝓤 (fact w.𝓤 φ) (emp w.𝓤)))
  free_where {φ} p =
      let E : Pr w = emp w.𝓤 in
      (tt, λ g. via w.𝓤 (sep w.𝓤 E E) (emp∗ w.𝓤 E) (mono_l w.𝓤 E (fact_i w.𝓤 φ E p)))

  -- what follows from two facts follows from them in the logic
  both : {φ ψ χ : Type 0} → (φ → ψ → χ) → ent w.𝓤 (conj w.𝓤 (fact w.𝓤 φ) (fact w.𝓤 ψ)) (fact w.𝓤 χ)
  both {φ} {ψ} {χ} f =
      let P : Pr w = conj w.𝓤 (fact w.𝓤 φ) (fact w.𝓤 ψ) in
      fact_use w.𝓤 φ (conj_l w.𝓤 (fact w.𝓤 φ) (fact w.𝓤 ψ)) (λ p. fact_use w.𝓤 ψ (conj_r w.𝓤 (fact w.𝓤 φ) (fact w.𝓤 ψ)) (λ q. fact_i w.𝓤 χ P (f p q)))

  -- two answers tell the same, o, and each is read off what it tells
  once : {O X : Type 0} {m n o : O} (read : O → X) → ent w.𝓤 (conj w.𝓤 (fact w.𝓤 (m ≡ o)) (fact w.𝓤 (n ≡ o))) (fact w.𝓤 (read m ≡ read n))
  once read = both (λ p q. ap read (p ∙ sym q))

  -- the same, of an equation the other way round
  once' : {O X : Type 0} {m n o : O} (read : O → X) → ent w.𝓤 (conj w.𝓤 (fact w.𝓤 (o ≡ m)) (fact w.𝓤 (o ≡ n))) (fact w.𝓤 (read m ≡ read n))
  once' read = both (λ p q. ap read (sym p ∙ q))

  -- the return is told, and nothing is lent for writing
  returns : {R L : Type 0} {o : R} (x y : R × L) → x.1 ≡ y.1 → ent w.𝓤 (conj w.𝓤 (fact w.𝓤 (x.0 ≡ o)) (fact w.𝓤 (y.0 ≡ o))) (fact w.𝓤 (x ≡ y))
  returns x y e = both (λ p q i. ((p ∙ sym q) i, e i))

  -- the same where a second clause follows
  returns_first : {R L : Type 0} {o : R} {φ ψ : Type 0} (x y : R × L) → x.1 ≡ y.1 → ent w.𝓤 (conj w.𝓤 (sep w.𝓤 (fact w.𝓤 (x.0 ≡ o)) (fact w.𝓤 φ)) (sep w.𝓤 (fact w.𝓤 (y.0 ≡ o)) (fact w.𝓤 ψ))) (fact w.𝓤 (x ≡ y))
  returns_first {o = o} {φ} {ψ} x y e =
      let P : Pr w = fact w.𝓤 (x.0 ≡ o) in
      let Q : Pr w = fact w.𝓤 (y.0 ≡ o) in
      via w.𝓤 (conj w.𝓤 P Q) (conj_mono w.𝓤 (fst∗ w.𝓤 P (fact w.𝓤 φ)) (fst∗ w.𝓤 Q (fact w.𝓤 ψ))) (returns x y e)

  -- what is told of the return, by f, tells the return
  told : {R L O : Type 0} {o : O} (f : R → O) (inj : (r s : R) → f r ≡ f s → r ≡ s) (x y : R × L) → x.1 ≡ y.1
      → ent w.𝓤 (conj w.𝓤 (fact w.𝓤 (f x.0 ≡ o)) (fact w.𝓤 (f y.0 ≡ o))) (fact w.𝓤 (x ≡ y))
  told f inj x y e = both (λ p q i. (inj x.0 y.0 (p ∙ sym q) i, e i))

-- a channel's answer, from its parts
answered : {C : Type 0} (r s : Answered C) → r.told ≡ s.told → r.channel ≡ s.channel → r ≡ s
answered r s e f = λ i. record { told = e i; channel = f i }

analysis_once : (c : ℕ) (r s : Answered analysis_channel.Channel) → analysis.cleared_by r ≡ analysis.cleared c → analysis.cleared_by s ≡ analysis.cleared c → r ≡ s
analysis_once c r s p q =
    let number : analysis.Cleared → ℕ = λ x. x.number in
    answered r s
    (number-injective r.told s.told (analysis.cleared c).number (analysis_frames.cleared-below c) (ap number p) (ap number q))
    (ap (λ (x : analysis.Cleared). x.channel) (p ∙ sym q))

synthesis_once : (c : ℕ) (r s : Answered synthesis_channel.Channel) → synthesis.cleared_by r ≡ synthesis.cleared c → synthesis.cleared_by s ≡ synthesis.cleared c → r ≡ s
synthesis_once c r s p q =
    let number : synthesis.Cleared → ℕ = λ x. x.number in
    answered r s
    (number-injective r.told s.told (synthesis.cleared c).number (synthesis_frames.cleared-below c) (ap number p) (ap number q))
    (ap (λ (x : synthesis.Cleared). x.channel) (p ∙ sym q))

-- what a frame tells is one, by its number, or by its number and index
analysis_told : (ch : analysis_channel.Channel) (x : analysis.Lent) (r s : Result ⊤ Refusal) (o n : analysis.Given × analysis_channel.Channel)
    → analysis.frames ch x ≡ o → analysis.frames ch x ≡ n → o.0.number ≡ (told_by r).number → n.0.number ≡ (told_by s).number → r ≡ s
analysis_told ch x r s o n p q e f =
    let number : analysis.Given × analysis_channel.Channel → ℕ = λ g. g.0.number in
    number-injective r s (number (analysis.frames ch x)) (analysis_frames.frames-below ch x) (sym (ap number p ∙ e)) (sym (ap number q ∙ f))

synthesis_told : (r s : Result ⊤ Refusal) (o n : synthesis.Given × synthesis_channel.Channel) → o ≡ n
    → record { number = o.0.number; index = o.0.index } ≡ told_by r → record { number = n.0.number; index = n.0.index } ≡ told_by s → r ≡ s
synthesis_told r s o n p e f =
    let verdict : synthesis.Given × synthesis_channel.Channel → Verdict = λ g. record { number = g.0.number; index = g.0.index } in
    told-injective r s (sym e ∙ (ap verdict p ∙ f))

-- an argument that is not lent for writing has nothing at exit: its place in an answer holds tt
pub entries : (w : World) → Entries w
unfolding pages.page
entries w =
    record {
      passes_6 = (λ κs a. free w, λ κs a g x y. returns w x y refl);
      passes_7 = (λ κs a. free w, λ κs a g x y. returns w x y refl);
      first_failing_6 = (λ κs a. free w, λ κs a g x y. returns w x y refl);
      first_failing_7 = (λ κs a. free w, λ κs a g x y. returns w x y refl);
      new = (λ κs a. free w, λ κs a g x y. returns w x y refl);
      add = (λ κs a. free w, λ κs a g x y. returns w x y refl);
      sub = (λ κs a. free w, λ κs a g x y. returns w x y refl);
      mul = (λ κs a. free w, λ κs a g x y. returns w x y refl);
      scaled = (λ κs a. free w, λ κs a g x y. returns w x y refl);
      valid = (λ κs a. free w, λ κs a g x y. returns w x y refl);
      nf = (λ κs a. free w, λ κs a g x y. returns w x y refl);
      z = (λ κs a. free w, λ κs a g x y. returns w x y refl);
      ne = (λ κs a. free w, λ κs a g x y. returns w x y refl);
      nb = (λ κs a. free w, λ κs a g x y. returns w x y refl);
      rate = (λ κs a. free w, λ κs a g x y. returns w x y refl);
      duration = (λ κs a. free w, λ κs a g x y. returns w x y refl);
      upper = (λ κs a. free w, λ κs a g x y. returns w x y refl);
      half = (λ κs a. free w, λ κs a g x y. returns w x y refl);
      edges = (λ κs a. free w, λ κs a g x y. once w (λ l. l));
      is_fft_size = (λ κs a. free w, λ κs a g x y. returns w x y refl);
      is_dct_length = (λ κs a. free w, λ κs a g x y. returns w x y refl);
      number = (λ κs a. free w, λ κs a g x y. returns w x y refl);
      index = (λ κs a. free w, λ κs a g x y. returns w x y refl);
      verdict_from = (λ κs a. free w, λ κs a g x y. returns w x y refl);
      on_clear = (λ κs a. free w, λ κs a g x y. returns w x y refl);
      on_values = (λ κs a. free w, λ κs a g x y. told w told_by told-injective x y refl);
      on_energies = (λ κs a. free w, λ κs a g x y. told w told_by told-injective x y refl);
      window = (λ κs a. free w, λ κs a g x y. once w (λ l. l));
      dct_twiddles = (λ κs a. free w, λ κs a g x y. once w (λ l. l));
      negate = (λ κs a. free w, λ κs a g x y. once w (λ l. (tt, (l, tt))));
      gain = (λ κs a. free w, λ κs a g x y. returns w x y refl);
      two = (λ κs a. free w, λ κs a g x y. returns w x y refl);
      three = (λ κs a. free w, λ κs a g x y. returns w x y refl);
      four = (λ κs a. free w, λ κs a g x y. returns w x y refl);
      five = (λ κs a. free w, λ κs a g x y. returns w x y refl);
      turned_2 = (λ κs a. free w, λ κs a g x y. returns w x y refl);
      part_2 = (λ κs a. free w, λ κs a g x y. returns w x y refl);
      turned_3 = (λ κs a. free w, λ κs a g x y. returns w x y refl);
      part_3 = (λ κs a. free w, λ κs a g x y. returns w x y refl);
      turned_4 = (λ κs a. free w, λ κs a g x y. returns w x y refl);
      packed = (λ κs a. free w, λ κs a g x y. once w (λ l. l));
      plan = (λ κs a. free w, λ κs a g x y. once w (λ l. l));
      fft = (λ κs a. free w, λ κs a g x y. both w (λ p q. let e = p ∙ sym q in λ i. (told-injective x.0 y.0 (ap (λ (o : kissfft.Answer). o.judged) e) i, (tt, (tt, (tt, (tt, ((e i).re, ((e i).im, tt)))))))));
      dct_iv = (λ κs a. free w, λ κs a g x y. both w (λ p q. let e = p ∙ sym q in λ i. (told-injective x.0 y.0 (ap (λ (o : dct.Answer). o.judged) e) i, (tt, ((e i).buf, tt)))));
      silence_300 = (λ κs a. free w, λ κs a g x y. returns w x y refl);
      scale = (λ κs a. free w, λ κs a g x y. once w (λ l. (tt, (l, (tt, tt)))));
      total = (λ κs a. free w, λ κs a g x y. returns w x y refl);
      zeros = (λ κs a. free w, λ κs a g x y. once w (λ l. (tt, (l, tt))));
      analysis_clear = (λ κs a. free w, λ κs a g x y. both w (λ p q i. (analysis_once a.0 x.0 y.0 p q i, (tt, tt))));
      analysis_frame = (λ κs a. free w, λ κs a g x y. both w (λ p q. let e = sym p ∙ q in λ i. (answered x.0 y.0 (analysis_told _ _ x.0.told y.0.told _ _ p q refl refl) (ap (λ (o : analysis.Given × analysis_channel.Channel). o.1) e) i, (tt, (tt, ((e i).0.lines, tt))))));
      analysis_frame_at = (λ κs a. free w, λ κs a g x y. both w (λ p q. let e = sym p ∙ q in λ i. (analysis_told _ _ x.0 y.0 _ _ p q refl refl i, (tt, ((e i).1.samples, (tt, ((e i).0.lines, tt)))))));
      measure = (λ κs a. free w, λ κs a g x y. both w (λ p q. let e = p ∙ sym q in λ i. (measurement_verdicts.once x.0 y.0 x.1.1.1.0 y.1.1.1.0 x.1.1.1.1.0 y.1.1.1.1.0 e i, (tt, (tt, ((e i).energies, ((e i).peaks, tt)))))));
      synthesis_clear = (λ κs a. free w, λ κs a g x y. both w (λ p q i. (synthesis_once a.0 x.0 y.0 p q i, (tt, tt))));
      synthesis_frame = (λ κs a. free w, λ κs a g x y. both w (λ p q. let e = sym p ∙ q in λ i. (answered x.0 y.0 (synthesis_told x.0.told y.0.told _ _ e refl refl) (ap (λ (o : synthesis.Given × synthesis_channel.Channel). o.1) e) i, (tt, (tt, ((e i).0.samples, tt))))));
      synthesis_frame_at = (λ κs a. free w, λ κs a g x y. both w (λ p q. let e = sym p ∙ q in λ i. (synthesis_told x.0 y.0 _ _ e refl refl i, (tt, ((e i).1.memory, (tt, ((e i).0.samples, tt)))))));
      loudest_band = (λ κs a. free w, λ κs a g x y. told w loudest.outcome loudest_answers.once x y refl);
      near_nyquist = (λ κs a. free w, λ κs a g x y. told w sooner.outcome sooner_answers.once x y refl);
      digit = (λ κs a. free w, λ κs a g x y. returns w x y refl);
      join = (λ κs a. free w, λ κs a g x y. returns w x y refl);
      read_header = (λ κs a. free w, λ κs a g x y. returns w x y refl);
      read_record = (λ κs a. free w, λ κs a g x y. returns w x y refl);
      sample = (λ κs a. free w, λ κs a g x y. returns w x y refl);
      opened = (λ κs a. free w, λ κs a g x y. returns w x y refl);
      step = (λ κs a. free w, λ κs a g x y. returns w x y refl);
      wanted = (λ κs a. free w, λ κs a g x y. returns w x y refl);
      size = (λ κs a. free w, λ κs a g x y. returns w x y refl);
      byte_at = (λ κs a. free w, λ κs a g x y. returns w x y refl);
      rest = (λ κs a. free w, λ κs a g x y. once w (λ l. l));
      short = (λ κs a. free w, λ κs a g x y. returns w x y refl);
      word = (λ κs a. free w, λ κs a g x y. returns w x y refl);
      count = (λ κs a. free w, λ κs a g x y. returns_first w x y refl);
      count_places = λ T e. (λ κs a. free_where w (subst (λ (κ : Lft). κs.1.1.0 ⊑ κ) (sym e) (⊑_static κs.1.1.0)), λ κs a g x y. returns_first w x y refl);
      samples = (λ κs a. free w, λ κs a g x y. once w (λ l. (tt, (tt, (l, tt)))));
      floats = (λ κs a. free w, λ κs a g x y. once w (λ l. (tt, (tt, (l, tt)))));
      area = (λ κs a. free w, λ κs a g x y. returns_first w x y refl);
      peaks = (λ κs a. free w, λ κs a g x y. returns_first w x y refl);
      read_log_header = (λ κs a. free w, λ κs a g x y. returns w x y refl);
      call_taken = (λ κs a. free w, λ κs a g x y. returns w x y refl);
      put_call = (λ κs a. free w, λ κs a g x y. once w (λ (p : pages.Page). (p.at, (p.bytes, (tt, (tt, (tt, (tt, (tt, (tt, (tt, (tt, (tt, tt)))))))))))));
      put_show = (λ κs a. free w, λ κs a g x y. once w (λ (p : pages.Page). (p.at, (p.bytes, (tt, (tt, (tt, (tt, (tt, (tt, tt))))))))));
      put_last = (λ κs a. free w, λ κs a g x y. once w (λ (p : pages.Page). (p.at, (p.bytes, (tt, (tt, (tt, tt)))))));
      fresh = (λ κs a. free w, λ κs a g x y. returns w x y refl);
      made = (λ κs a. free w, λ κs a g x y. returns w x y refl);
      analysis_answered_from = (λ κs a. free w, λ κs a g x y. returns w x y refl);
      synthesis_cleared_from = (λ κs a. free w, λ κs a g x y. returns w x y refl);
      measured_from = (λ κs a. free w, λ κs a g x y. returns w x y refl);
      loudest_heard_from = (λ κs a. free w, λ κs a g x y. returns w x y refl);
      asked_from = (λ κs a. free w, λ κs a g x y. returns w x y refl);
      c_fft = (λ κs a. free w, λ κs a g x y. once w (λ (o : kissfft.Answer). (o.judged, (tt, (tt, (tt, (tt, (o.re, (o.im, tt)))))))));
      c_dct_iv = (λ κs a. free w, λ κs a g x y. once w (λ (o : dct.Answer). (o.judged, (tt, (o.buf, tt)))));
      c_analysis_clear = (λ κs a. free w, λ κs a g x y. returns w x y refl);
      c_analysis_frame = (λ κs a. free w, λ κs a g x y. once' w (λ (o : analysis.Given × analysis_channel.Channel). (record { number = o.0.number; channel = o.1 }, (tt, (tt, (o.0.lines, tt))))));
      c_analysis_frame_at = (λ κs a. free w, λ κs a g x y. once' w (λ (o : analysis.Given × analysis_channel.Channel). (o.0.number, (tt, (o.1.samples, (tt, (o.0.lines, tt)))))));
      c_measure = (λ κs a. free w, λ κs a g x y. once w (λ (o : measurement.Given). (record { number = o.number; index = o.index; flag = o.flag }, (tt, (tt, (o.energies, (o.peaks, tt)))))));
      c_synthesis_clear = (λ κs a. free w, λ κs a g x y. returns w x y refl);
      c_synthesis_frame = (λ κs a. free w, λ κs a g x y. once' w (λ (o : synthesis.Given × synthesis_channel.Channel). (record { number = o.0.number; index = o.0.index; channel = o.1 }, (tt, (tt, (o.0.samples, tt))))));
      c_synthesis_frame_at = (λ κs a. free w, λ κs a g x y. once' w (λ (o : synthesis.Given × synthesis_channel.Channel). (record { number = o.0.number; index = o.0.index }, (tt, (o.1.memory, (tt, (o.0.samples, tt)))))));
      c_loudest_band = (λ κs a. free w, λ κs a g x y. returns w x y refl);
      c_near_nyquist = (λ κs a. free w, λ κs a g x y. returns w x y refl);
    }

pub cited : (w : World) → Cited w
cited w =
    record {
      fft = λ κs a g x. refl;
      dct_iv = λ κs a g x. refl;
      analysis_clear = λ κs a g x. refl;
      analysis_frame = λ κs a g x. refl;
      analysis_frame_at = λ κs a g x. refl;
      measure = λ κs a g x. refl;
      synthesis_clear = λ κs a g x. refl;
      synthesis_frame = λ κs a g x. refl;
      synthesis_frame_at = λ κs a g x. refl;
      loudest_band = λ κs a g x. refl;
      near_nyquist = λ κs a g x. refl;
      opened = λ κs a g x. refl;
      step = λ κs a g x. refl;
    }
