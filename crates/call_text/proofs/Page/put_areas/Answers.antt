-- `call_text::Page::put_areas` meets its contract: each kind's lines. Assumes nothing.
use Rattle.std.proofs.Common.{rules}
use Rattle.call_text.specs.Lines.{area_line, places_line}
use Rattle.call_text.proofs.Pages.{nothing, two}
use Rattle.call_text.proofs.Page.put_areas.Goals as goal

pub returns-in-2 : goal.returns-in-2
unfolding area_line
returns-in-2 c = simp c.in-2.is (two _ _ c.put_line.ensures c.put_measured.ensures)

pub returns-in-4 : goal.returns-in-4
unfolding area_line
returns-in-4 c = simp c.in-4.is c.put_line-in-4.ensures

pub returns-in-5 : goal.returns-in-5
unfolding area_line
returns-in-5 c = simp c.in-5.is (two _ _ c.put_line-in-5.ensures c.put_line-in-5-2.ensures)

pub returns-in-6 : goal.returns-in-6
unfolding area_line
returns-in-6 c = simp c.in-6.is c.put_line-in-6.ensures

pub returns-in-11 : goal.returns-in-11
unfolding area_line
returns-in-11 c = simp c.in-11.is c.put_line-in-11.ensures

pub returns-in-14 : goal.returns-in-14
unfolding places_line
returns-in-14 c = simp c.in-14.is c.put_line-in-14.ensures

pub returns-in_default : goal.returns-in_default
returns-in_default c = let same = nothing c.args.self.now in search (rules, same)
