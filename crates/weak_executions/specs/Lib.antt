pub mod AllowedEnds
