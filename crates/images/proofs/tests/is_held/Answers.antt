-- `images::tests::is_held` asks what it may: the filled part of the column is there, and rises. Assumes nothing.
use mathlib.Core.Path.{sym}
use lib.Seq.{length-take-le}
use Rattle.image.proofs.Lent.{objects_long, objects_ascend}
use Rattle.images.proofs.tests.is_held.Goals as goal

pub slice_bounds-objects-end : goal.slice_bounds-objects-end
slice_bounds-objects-end c = objects_long c.args.t c.requires c.objects_of-objects.result c.objects_of-objects.ensures

pub slice_bounds-is_object_among-end : goal.slice_bounds-is_object_among-end
slice_bounds-is_object_among-end c = sym (length-take-le _ _ (objects_long c.args.t c.requires c.objects_of-objects.result c.objects_of-objects.ensures))

pub is_object_among-requires : goal.is_object_among-requires
is_object_among-requires c = objects_ascend c.args.t c.requires c.objects_of-objects.result c.objects_of-objects.ensures
