-- The first of the twelve checks that fails.
use Rattle.yw_read.specs.declared.raw.RawSpec.{RawSpec}
use Rattle.yw_accept.specs.Graph.{PathsFit, ChildrenFit, LevelsFit, OrJoinsFit}
use Rattle.yw_accept.specs.Names.{NamesFit, FlowsFit, RemovalsFit}
use Rattle.yw_accept.specs.Order.{Check, Then}
use Rattle.yw_accept.specs.Scopes.{SortsFit, ParametersAgree}
use Rattle.yw_accept.specs.Tasks.{ItemsFit, SplitsFit, SizesFit}

unfoldable pub IsVerdict : RawSpec → Check
IsVerdict raw =
    Then (NamesFit raw)
    (Then (FlowsFit raw)
    (Then (PathsFit raw)
    (Then (RemovalsFit raw)
    (Then (ItemsFit raw)
    (Then (ChildrenFit raw)
    (Then (LevelsFit raw)
    (Then (OrJoinsFit raw)
    (Then (SortsFit raw)
    (Then (SplitsFit raw)
    (Then (ParametersAgree raw)
    (SizesFit raw)))))))))))
