pub mod Shows
pub mod TextPrograms
