-- A step of the run: the call at the front of the bytes, or the last line. Definitions only.
use Rattle.std.specs.Prelude.{ℕ, Bool, cond, List, [], ◌∷◌, ltb, eqb, length, get_or, take, Option, Some, None}
use Rattle.call_log.specs.Log.{call_taken}
use Rattle.call_text.specs.Page.{Page, page, written}
use Rattle.call_text.specs.Lines.{call_text, show_text, last_line}
use Rattle.call_made.specs.declared.Answer.{Answer}
use Rattle.call_made.specs.declared.Bench.{Bench}
use Rattle.call_made.specs.Made.{made}

-- ---- the text
abbrev pub answer_text : ℕ → ℕ → Answer → List ℕ
answer_text count kind a = call_text count kind a.told.number a.told.index a.extra (take a.m a.x) (take a.n a.y) (take a.o a.z)

-- "8 `analysis C` and every sample of the array in decimal, `synthesis C` and every place of the memory in hex"
abbrev pub made_text : ℕ → ℕ → Bench → List ℕ
made_text count kind s =
    cond (eqb kind 8) (show_text count s.analysis.config s.analysis.samples s.synthesis.config s.synthesis.memory)
    (answer_text count kind s.answer)

-- `end` and `stopped`
abbrev pub last_word : Bool → List ℕ
last_word is_end = cond is_end (0x65 ∷ 0x6e ∷ 0x64 ∷ []) (0x73 ∷ 0x74 ∷ 0x6f ∷ 0x70 ∷ 0x70 ∷ 0x65 ∷ 0x64 ∷ [])

-- "Last `end N` with the number of calls. Call K cut, of an unknown kind, ..: `stopped K` in place of the rest"
abbrev pub last_text : Bool → ℕ → List ℕ
last_text is_end n = last_line (last_word is_end) n

-- ---- the step
-- how many bytes the call at the front takes, 0 where there is none
abbrev pub whole_of : Option ℕ → ℕ
whole_of (Some n) = n
whole_of None = 0

abbrev pub taken_of : List ℕ → ℕ
taken_of b = whole_of (call_taken b)

-- how many a step uses: none where its text would find no room
unfoldable pub used_of : List ℕ → List ℕ → ℕ → ℕ
used_of b out at = cond (ltb at (length out)) (taken_of b) 0

-- the channels and the answer when it has used n of them
unfoldable pub bench_after : Bench → List ℕ → ℕ → Bench
bench_after s b n = cond (eqb n 0) s (made s (get_or b 0 0) (take n b))

-- the text of a step that uses n of them
unfoldable pub text_of : Bench → List ℕ → ℕ → ℕ → List ℕ
text_of s b count n = cond (eqb n 0) (last_text (eqb (length b) 0) count) (made_text count (get_or b 0 0) (bench_after s b n))

-- the output after it
unfoldable pub stepped : Bench → List ℕ → List ℕ → ℕ → ℕ → Page
stepped s b out at count = cond (ltb at (length out)) (written (page out at) (text_of s b count (taken_of b))) (page out at)
