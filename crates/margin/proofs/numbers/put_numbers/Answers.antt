-- The prompts, the spreads after them, and the touches at the end.
-- Assumes nothing.
use lib.IntN.{pos}
use Rattle.margin.proofs.NumberLaws.{threes_on, threes-length, twos_on, twos_length, book-listed}
use Rattle.margin.proofs.numbers.put_numbers.Goals as goal

pub returns : goal.returns
returns c =
    let nets = c.args.nets.now in
    let used = c.args.used.now in
    let unused = c.args.unused.now in
    let first = c.args.first.now in
    let second = c.args.second.now in
    let prompts = c.requires.0 in
    let spreads = c.requires.1.0 in
    book-listed c.args.prompts c.args.spreads c.args.out.now c.put_prompts.new.out c.put_spreads.new.out
    c.put.new.out (threes_on c.args.prompts nets used unused 0) (twos_on c.args.spreads first second 0) (pos c.args.touches)
    (threes-length c.args.prompts nets used unused prompts.nets_there prompts.used_there prompts.unused_there)
    (twos_length c.args.spreads first second spreads.firsts_there spreads.seconds_there)
    c.put_prompts.ensures c.put_spreads.ensures c.put.ensures
