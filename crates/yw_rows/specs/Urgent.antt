-- A case while a check is due, and after it; and which entries come of themselves.
-- What is to be shown was worked out by hand from the rules of tokens, items, values and checks, and not taken from what these
-- definitions give.
use Rattle.std.specs.Prelude.{List, [], ◌∷◌, ◌++◌, take, None, codes}
use Rattle.yw_rows.specs.Nested.{nested_row}
use Rattle.yw_rows.specs.Play.{Entry}
use Rattle.yw_state.specs.declared.event.Event.{Event}
use Rattle.yw_rows.specs.Written.{item, net_row, nothing_shown, plain, token}
use Rattle.yw_spec.specs.declared.spec.Place.TheVariants.{Between, Named}
use Rattle.yw_state.specs.declared.answer.Shown.{Shown}
use Rattle.yw_state.specs.declared.event.Event.TheVariants as events
use Rattle.yw_state.specs.declared.part.Stage.TheVariants as stages
use Rattle.yw_state.specs.declared.tree.TreeKind.TheVariants as kinds

-- the nested case up to the entry of the task for which a worklet is to be chosen, and with the choice made
abbrev pub to_choose : List Entry
to_choose =
    take 9 nested_row ++ (plain
    (events.Complete (1 ∷ 2 ∷ []) []
    ∷ events.Exit (1 ∷ []) (codes "s") (Named (codes "c1") ∷ Named (codes "c2") ∷ [])
    ∷ events.Enter (1 ∷ []) (codes "C") (Named (codes "c1") ∷ []) 3 1
    ∷ events.StartSub (1 ∷ 3 ∷ [])
    ∷ events.Enter (1 ∷ 3 ∷ []) (codes "x") (Named (codes "i") ∷ []) 4 1
    ∷ [])
    ∷ [])

abbrev pub chosen : List Entry
chosen = to_choose ++ plain (events.Substitute (1 ∷ 3 ∷ 4 ∷ []) (codes "wl") ∷ []) ∷ []

-- the choice is due, and no worklet stands yet
abbrev pub choice_due : Shown
choice_due =
    record nothing_shown {
      due = record { at = 1 ∷ 3 ∷ 4 ∷ []; check = kinds.Select } ∷ [];
      items = item (1 ∷ 3 ∷ []) (codes "C") stages.Executing None ∷ item (1 ∷ 3 ∷ 4 ∷ []) (codes "x") stages.Ready None ∷ [];
      nets = net_row (1 ∷ []) (codes "top") (codes "main") [] ∷ net_row (1 ∷ 3 ∷ []) (codes "top") (codes "cn") [] ∷ [];
      tokens = token (1 ∷ []) (Named (codes "c2")) 1 ∷ [];
    }

-- a person enters another task of the case
abbrev pub enter_k : Event
enter_k = events.Enter (1 ∷ []) (codes "k") (Named (codes "c2") ∷ []) 5 1

-- the tasks of the loan: a person applies, a child net reviews, a person pays, nobody refuses; a tree of worklets has a rule for the
-- assessment and none for the vote
abbrev pub enter_apply : Event
enter_apply = events.Enter (1 ∷ []) (codes "apply") (Named (codes "i") ∷ []) 2 1

abbrev pub enter_review : Event
enter_review = events.Enter (1 ∷ []) (codes "review") (Between (codes "apply") (codes "review") ∷ []) 3 1

abbrev pub enter_pay : Event
enter_pay = events.Enter (1 ∷ []) (codes "pay") (Between (codes "review") (codes "pay") ∷ []) 8 1

abbrev pub enter_refuse : Event
enter_refuse = events.Enter (1 ∷ []) (codes "refuse") (Between (codes "review") (codes "refuse") ∷ []) 8 1

abbrev pub enter_assess : Event
enter_assess = events.Enter (1 ∷ 3 ∷ []) (codes "assess") (Named (codes "i") ∷ []) 4 1

abbrev pub enter_vote : Event
enter_vote = events.Enter (1 ∷ 3 ∷ []) (codes "vote") (Between (codes "assess") (codes "vote") ∷ []) 6 2
