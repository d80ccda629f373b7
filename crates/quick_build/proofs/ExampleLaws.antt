-- The examples, computed.
use Rattle.std.proofs.Common.{refl}
use Rattle.gypsy_syntax.specs.Predefined.{predef_effect, effect_by}
use Rattle.gypsy_space.specs.Needs.{main_used, with_call, call_need, has_room}
use Rattle.gypsy_semantics.specs.Calls.{values_of, target_of}
use Rattle.quick_gypsy.specs.InLine.{main_context, callee_context}
use Rattle.quick_build.specs.QuickExamples.{UptoIsQuick, ProductIsQuick, SwapIsQuick}

pub upto_is_quick : UptoIsQuick
unfolding predef_effect effect_by values_of target_of main_context main_used
upto_is_quick = record { words = refl; count = refl }

pub product_is_quick : ProductIsQuick
unfolding predef_effect effect_by values_of target_of main_context main_used
product_is_quick = record { words = refl; count = refl; overflow = refl }

pub swap_is_quick : SwapIsQuick
unfolding predef_effect effect_by values_of target_of main_context callee_context main_used with_call call_need has_room
swap_is_quick = record { words = refl; count = refl }
