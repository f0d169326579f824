-- `call_text::Page::put_bytes` meets its contract. The invariant: the bytes passed are written. Assumes nothing.
use lib.ListN.{take}
use Rattle.call_text.specs.Pages.{Writes}
use Rattle.call_text.specs.Lines.{each}
use Rattle.call_text.proofs.Pages.{byte}
use Rattle.call_text.proofs.Page.put_bytes.Given as goal

abbrev pub invariant-loop-b : goal.invariant-loop-b
invariant-loop-b l = Writes l.initial.self l.self (each byte (take l.b-index l.bytes))
