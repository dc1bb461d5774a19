-- The commands of the table are made of their rows.
use Rattle.std.proofs.Common.{refl}
use Rattle.clap.proofs.OnLiterals.{clap_on_literals}
use Rattle.vm_cmd.specs.Table.{run_form, replay_form, show_form, files_form, make_form, inspect_form}
use Rattle.vm_cmd.specs.Shapes.{MadeOf, run_app, replay_app, show_app, files_app, make_app, inspect_app}

pub run_made : MadeOf run_app run_form
unfolding clap_on_literals
run_made = record { free = refl; simple = refl; leaf = refl; shape = refl; well = refl; bare = refl }

pub replay_made : MadeOf replay_app replay_form
unfolding clap_on_literals
replay_made = record { free = refl; simple = refl; leaf = refl; shape = refl; well = refl; bare = refl }

pub show_made : MadeOf show_app show_form
unfolding clap_on_literals
show_made = record { free = refl; simple = refl; leaf = refl; shape = refl; well = refl; bare = refl }

pub files_made : MadeOf files_app files_form
unfolding clap_on_literals
files_made = record { free = refl; simple = refl; leaf = refl; shape = refl; well = refl; bare = refl }

pub make_made : MadeOf make_app make_form
unfolding clap_on_literals
make_made = record { free = refl; simple = refl; leaf = refl; shape = refl; well = refl; bare = refl }

pub inspect_made : MadeOf inspect_app inspect_form
unfolding clap_on_literals
inspect_made = record { free = refl; simple = refl; leaf = refl; shape = refl; well = refl; bare = refl }
