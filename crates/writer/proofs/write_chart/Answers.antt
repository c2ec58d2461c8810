use Rattle.writer.proofs.Charts.{chart-put}
use mathlib.Core.Path.{refl}
use Rattle.writer.proofs.write_chart.Goals as goal

pub returns : goal.returns
returns c = chart-put _ _ c.requires.1 _ _ _ _ _ _ _ _ _ _ _ c.write_head.ensures.put refl c.write_lines-b.ensures.lines_put c.write_lines-c.ensures.lines_put c.write_lines-d.ensures.lines_put c.put_line.ensures.put
