-- What is said of a list for the joined account, told to C.
-- Assumes nothing.
use mathlib.Core.Path.{refl, subst}
use Rattle.lists.specs.declared.JudgedPair.{JudgedPair}
use Rattle.felgotany.specs.code.Outcomes.{TellsPairList}
use Rattle.felgotany.proofs.felgotany_joined_judge.Goals as goal

pub returns : goal.returns
returns c =
    let m = c.judge_joined-said in
    subst (λ (j : JudgedPair). TellsPairList j (record { file = m.result.file; list = c.tell_list.result })) m.ensures
    (record { file_is = refl; list_is = c.tell_list.ensures })
