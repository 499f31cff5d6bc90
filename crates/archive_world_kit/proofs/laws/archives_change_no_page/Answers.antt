use Rattle.archive_world_kit.proofs.Texts.{page_unmoved, texts_alike}
use Rattle.archive_world_kit.proofs.laws.archives_change_no_page.Goals as goal

pub returns : goal.returns
returns g c = record {
  numbers = λ h sound told a g fed feed proper last are service but shape m kind there w here.
      page_unmoved h sound told a fed feed proper last service but g are shape m kind there w here;
  text = λ h sound told a g k fed feed proper last mine theirs service but shape m n on w w_there v v_there labels bounds name.
      texts_alike h sound told a fed feed proper last service but g k mine theirs shape m n on w w_there v v_there labels bounds name;
}
